-- Each fact of each row of the table holds, by computing; and case G by the promise.
use Rattle.std.proofs.Common.{refl}
use Rattle.pages.specs.Browser.{nth, change}
use Rattle.pages.specs.Outs.{keep_only}
use Rattle.pages.specs.Runs.{iterate, trace, line_due, count_from}
use Rattle.pages.specs.Views.{row}
use Rattle.pages.specs.Promise.{Others, AlikeRuns, only}
use Rattle.pages.specs.Laws.{Every}
use Rattle.pages.specs.Cases.{doing, sites_of, asker, at_b, knows, refuses, b, evening, TableHolds, GuestUnseen}
use Rattle.pages.proofs.Whole.{same_runs}

pub table_holds : TableHolds
unfolding Every iterate trace nth change row keep_only doing
table_holds = (
  (refl, (refl, tt)),
  (
    (refl, (refl, (refl, tt))),
    (
      (refl, (refl, tt)),
      (
        (refl, (refl, (refl, tt))),
        (
          (refl, (refl, tt)),
          (
            (refl, (refl, (refl, tt))),
            (
              (refl, (refl, tt)),
              (
                (refl, (refl, tt)),
                (
                  (refl, tt),
                  (
                    (refl, (refl, (refl, (refl, (refl, (refl, (refl, tt))))))),
                    (
                      (refl, tt),
                      (
                        (refl, (refl, (refl, tt))),
                        (
                          (refl, (refl, tt)),
                          (
                            (refl, tt),
                            (
                              (refl, (refl, tt)),
                              (
                                (refl, (refl, (refl, tt))),
                                (
                                  (refl, (refl, tt)),
                                  (
                                    (refl, (refl, (refl, tt))),
                                    (
                                      (refl, (refl, tt)),
                                      (
                                        (refl, (refl, tt)),
                                        (
                                          (refl, (refl, (refl, tt))),
                                          tt,
                                        ),
                                      ),
                                    ),
                                  ),
                                ),
                              ),
                            ),
                          ),
                        ),
                      ),
                    ),
                  ),
                ),
              ),
            ),
          ),
        ),
      ),
    ),
  ),
)

same_but_b : Others (only b) (sites_of asker (at_b knows)) (sites_of asker (at_b refuses))
same_but_b = record { sites = refl; act = λ s x t n. refl; next = λ s x t n. refl; begin = λ s d n. refl; serve = λ q x n. rw n }

evening-alike : AlikeRuns (only b) evening evening
evening-alike = record { agenda = refl; world = record { public = refl; views = λ s n. refl } }

pub guest_unseen : GuestUnseen
unfolding iterate trace nth change keep_only doing line_due count_from
guest_unseen = (same_but_b, same_runs same_but_b 6 evening evening evening-alike refl)

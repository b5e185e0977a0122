use Rattle.std.proofs.Common.{drop, sym, ap, ◌∙◌}
use Rattle.std.specs.List.{slice_get}
use Rattle.settings.proofs.Turning.{turns-some, turns-none}
use Rattle.settings.proofs.Turns.next.Goals as goal

pub returns-in_err-turn : goal.returns-in_err-turn
returns-in_err-turn c =
    let h = turns-none c.args.self.now.text.now (sym c.in_err-turn.ensures) in
    record { is = c.from_residual.ensures ∙ sym (ap (λ l. slice_get l 0) h); left = h ∙ sym (ap (drop 1) h) }

pub returns : goal.returns
returns c =
    let h = turns-some c.args.self.now.text.now c.in_ok-turn.rest.now c.in_ok-turn.turn (sym c.in_ok-turn.ensures) in
    record { is = sym (ap (λ l. slice_get l 0) h); left = sym (ap (drop 1) h) }

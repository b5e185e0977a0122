-- Answers that may not be seen.
use Rattle.std.proofs.Common.{◌≡◌, ℕ, Bool, true, false, cond, ◌||◌, eqb, ltb, List, [], ◌∷◌, length, Some, None, Option, sym, refl, ap, ◌∙◌, ne_eqb}
use Rattle.std.proofs.lemmas.Bool.{cond-false, or_parts}
use Rattle.octets.proofs.Options.{none-some, some_same}
use Rattle.answers.specs.declared.Kind.TheVariants.{Asked}
use Rattle.machine.specs.Script.{State}
use Rattle.pages.specs.Sites.{Bytes, Act, Idle, Asks, Says, Keeps, Looks, Opens, Answer, Barred, Request, Reply, Unreadable, Readable, Scripts}
use Rattle.pages.specs.Browser.{Window, Part, Opening, TurnOf, most_windows, nth, change, owns, answered, may_see, token_after, act_of, begun, needs_by, needs_of, with_reply, replied_to}
use Rattle.pages.specs.Outs.{Out, out, Let, let_by, outs_by}
use Rattle.pages.specs.Outs as outs
use Rattle.pages.specs.Code.{ended_by, outs_with_of}
use Rattle.windows.specs.Scripts.{by_machine}
use Rattle.browser.specs.Whole.{reply_in}
use Rattle.browser.specs.Wire.{SiteTable, kind_for, reply_of}
use Rattle.runs.specs.Events.{asked, part_after, entry_for}
use Rattle.site_laws.specs.Laws.{SameBut, BarredAlike}

-- the page is told that there is one that it may not see
told_barred : (s t : ℕ) (r : Reply) → may_see s t r ≡ false → answered s t r ≡ Barred t
told_barred s t Unreadable h = refl
told_barred s t (Readable c d k lets) h = cond-false (eqb s t || lets s) (Answer t c d) (Barred t) h

-- and nothing is let out by the server
lets-none : (s t : ℕ) (r : Reply) → may_see s t r ≡ false → let_by t s r ≡ []
lets-none s t Unreadable h = refl
lets-none s t (Readable c d k lets) h = cond-false (lets s) (out t s (Let c d) ∷ []) [] (or_parts (eqb s t) (lets s) h).1

-- what is asked by an act, and what is let out with it
act_same : (ws : List (Window State)) (b : Part State) (o s : ℕ) (act : Act) (q : Request) (r r' : Reply) → needs_by o act b ≡ Some q → q.from ≡ Some s → may_see s q.site r ≡ false → may_see s q.site r' ≡ false → outs_by ws o act r ≡ outs_by ws o act r'
act_same ws b o s Idle q r r' n f h h' = refl
act_same ws b o s (Asks t path body) q r r' n f h h' =
    let same : record { site = t; from = Some o; token = b.tokens t; path = path; body = body } ≡ q = some_same _ q n in
    let who : o ≡ s = some_same o s (ap (λ z. z.from) same ∙ f) in
    let whom : q.site ≡ t = sym (ap (λ z. z.site) same) in
    let none : (x : Reply) → may_see s q.site x ≡ false → let_by t o x ≡ [] = λ x k. lets-none o t x (ap (λ z. may_see z t x) who ∙ ap (λ z. may_see s z x) (sym whom) ∙ k) in
    ap {B = List Out} (λ z. cond (eqb t o) [] (out o t (outs.Asked path body) ∷ z)) (none r h ∙ sym (none r' h'))
act_same ws b o s (Says j t d) q r r' n f h h' = refl
act_same ws b o s (Keeps d) q r r' n f h h' = refl
act_same ws b o s Looks q r r' n f h h' = refl
act_same ws b o s (Opens t path) q r r' n f h h' = refl

found_same : (c : Scripts State) (b : Part State) (x : Option (Window State)) (s : ℕ) (q : Request) (r r' : Reply) → needs_of c x b ≡ Some q → q.from ≡ Some s → may_see s q.site r ≡ false → may_see s q.site r' ≡ false → outs_with_of c x r b ≡ outs_with_of c x r' b
found_same c b None s q r r' n f h h' = refl
found_same c b (Some x) s q r r' n f h h' = act_same b.windows b x.site s (act_of c x) q r r' n f h h'

-- a page is asked for in nobody's name
no_origin : (w : Bool) (t : ℕ) (path : Bytes) (token : Option Bytes) (q : Request) → cond w (Some (record { site = t; from = None; token = token; path = path; body = [] })) None ≡ Some q → q.from ≡ None
no_origin true t path token q e = sym (ap (λ z. z.from) (some_same _ q e))
no_origin false t path token q e = absurd (none-some q e)

module _ (table : SiteTable) (i : ℕ) (b : Part State) (q : Request) (s : ℕ) (asks : asked table (TurnOf i) b ≡ Some q) (from : q.from ≡ Some s) where
  abbrev scripts : Scripts State
  scripts = by_machine (length table)

  abbrev begun-part : Part State
  begun-part = begun scripts (TurnOf i) b

  reply_is : (a : Bytes) → reply_in table (asked table (TurnOf i) b) a ≡ reply_of table Asked a
  reply_is a = ap (λ z. reply_in table z a) asks ∙ ap (λ z. reply_of table (kind_for z) a) from

  -- the part, where the answer may not be seen
  abbrev barred_part : Reply → Part State
  barred_part r = with_reply q r (change i (owns (Barred q.site)) begun-part.windows) begun-part

  part_is : (a : Bytes) → may_see s q.site (reply_of table Asked a) ≡ false → part_after table (TurnOf i) a b ≡ barred_part (reply_of table Asked a)
  part_is a none =
      ap (λ z. ended_by scripts (TurnOf i) (asked table (TurnOf i) b) z begun-part) (reply_is a)
      ∙ ap (λ z. ended_by scripts (TurnOf i) z (reply_of table Asked a) begun-part) asks
      ∙ ap (λ z. replied_to scripts i z q (reply_of table Asked a) begun-part) from
      ∙ ap (λ z. with_reply q (reply_of table Asked a) (change i (owns z) begun-part.windows) begun-part) (told_barred s q.site (reply_of table Asked a) none)

  turn_alike : (a a' : Bytes) → may_see s q.site (reply_of table Asked a) ≡ false → may_see s q.site (reply_of table Asked a') ≡ false →
      SameBut q.site (part_after table (TurnOf i) a b) (part_after table (TurnOf i) a' b) × ((entry_for table (TurnOf i) a b).outs ≡ (entry_for table (TurnOf i) a' b).outs)
  turn_alike a a' none none' =
      let p = part_is a none in
      let p' = part_is a' none' in (
        record {
          windows = ap (λ z. z.windows) p ∙ sym (ap (λ z. z.windows) p');
          kept = ap (λ z. z.kept) p ∙ sym (ap (λ z. z.kept) p');
          tokens = λ t n. ap (λ z. z.tokens t) p ∙ other t n (reply_of table Asked a) ∙ sym (other t n (reply_of table Asked a')) ∙ sym (ap (λ z. z.tokens t) p');
        },
        found_same scripts b (nth i b.windows) s q _ _ asks from (ap (may_see s q.site) (reply_is a) ∙ none) (ap (may_see s q.site) (reply_is a') ∙ none'),
      )
    where
      other : (t : ℕ) → (t ≡ q.site → ⊥) → (r : Reply) → (barred_part r).tokens t ≡ begun-part.tokens t
      other t n r = cond-false (eqb t q.site) (token_after r (begun-part.tokens q.site)) (begun-part.tokens t) (ne_eqb t q.site n)

pub barred_alike : BarredAlike
barred_alike table (TurnOf i) b q s a a' asks from none none' = turn_alike table i b q s asks from a a' none none'
barred_alike table (Opening t h) b q s a a' asks from none none' = absurd (none-some s (sym (no_origin (ltb (length b.windows) most_windows) t h (b.tokens t) q asks) ∙ from))

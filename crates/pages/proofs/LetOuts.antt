-- What is let out, and that an asking page is told no more.
use Rattle.std.proofs.Common.{◌≡◌, ℕ, Bool, true, false, cond, not, ◌&&◌, ◌||◌, eqb, List, [], ◌∷◌, Some, None, Option, sym, refl, ap, ◌∙◌, subst, eq-eqb, ne_eqb, eqb-true}
use mathlib.Core.Bool.{false≢true}
use borrow.Author.Tests.{eqb-false}
use Rattle.pages.specs.Sites.{Bytes, Act, Idle, Asks, Says, Keeps, Looks, Opens, Answer, Barred, Reply, Unreadable, Readable, Sites}
use Rattle.pages.specs.Browser.{Window, World, nth, change, act_of, stepped, owns, answered, needs_by, begun_by, needs_of, exchanged, TurnOf}
use Rattle.pages.specs.Outs.{What, Asked, Said, Let, Out, out, is_of, let_by, outs_by, outs_of, reply_to, outs, keep_only}
use Rattle.pages.specs.Laws.{Every, asking, MayLetOut, asked, said, opened, let_see, told_by, LetOutOnly, ElseNothing, ToldIsLetOut}
use Rattle.pages.proofs.Places.{nth-change}
use Rattle.pages.proofs.Turns.{turn_is}

module _ {S : Type 0} where
  -- a window that is there and of site t
  is_of_lem : (t : ℕ) (f : Option (Window S)) → is_of t f ≡ true → (y : Window S) × (f ≡ Some y) × (y.site ≡ t)
  is_of_lem t None e = absurd (false≢true e)
  is_of_lem t (Some y) e = (y, refl, eqb-true y.site t e)

module _ {S R : Type 0} where
  module _ (p : Sites S R) (w : World S R) (x : Window S) where
    abbrev Only : List Out → Type 0
    Only = Every (MayLetOut p w x)

    only_seen : (t : ℕ) (h d : Bytes) → act_of p.scripts x ≡ Asks t h d → (t ≡ x.site → ⊥) → (r : Reply) → (p.serve (asking w x.site t h d) (w.servers t)).reply ≡ r → Only (let_by t x.site r)
    unfolding Every
    only_seen t h d e n Unreadable q = tt
    only_seen t h d e n (Readable c b k lets) q = go (lets x.site) refl
      where
        go : (l : Bool) → lets x.site ≡ l → Only (cond l (out t x.site (Let c b) ∷ []) [])
        go true m = (let_see t h d c b k lets e n q m, tt)
        go false m = tt

    only-asked : (t : ℕ) (h d : Bytes) → act_of p.scripts x ≡ Asks t h d → (b : Bool) → eqb t x.site ≡ b → (r : Reply) → (p.serve (asking w x.site t h d) (w.servers t)).reply ≡ r → Only (cond b [] (out x.site t (Asked h d) ∷ let_by t x.site r))
    unfolding Every
    only-asked t h d e true m r q = tt
    only-asked t h d e false m r q = (asked t h d e (eqb-false t x.site m), only_seen t h d e (eqb-false t x.site m) r q)

    only-said : (j t : ℕ) (d : Bytes) → act_of p.scripts x ≡ Says j t d → (b c : Bool) → eqb t x.site ≡ b → is_of t (nth j w.part.windows) ≡ c → Only (cond (not b && c) (out x.site t (Said j d) ∷ []) [])
    unfolding Every
    only-said j t d e true c m o = tt
    only-said j t d e false false m o = tt
    only-said j t d e false true m o = let y = is_of_lem t (nth j w.part.windows) o in (said j t d y.0 e (eqb-false t x.site m) y.1 y.2, tt)

    -- one case for each act
    only_by : (a : Act) → act_of p.scripts x ≡ a → Only (outs_by w.part.windows x.site a (reply_to p (needs_by x.site a w.part) w.servers))
    unfolding Every
    only_by Idle e = tt
    only_by (Asks t h d) e = only-asked t h d e (eqb t x.site) refl _ refl
    only_by (Says j t d) e = only-said j t d e (eqb t x.site) (is_of t (nth j w.part.windows)) refl refl
    only_by (Keeps d) e = tt
    only_by Looks e = tt
    only_by (Opens t h) e = (opened t h e, tt)

  outs_are :
      (p : Sites S R) (w : World S R) (i : ℕ) (x : Window S) (a : Act) → nth i w.part.windows ≡ Some x → act_of p.scripts x ≡ a →
      outs p (TurnOf i) w ≡ outs_by w.part.windows x.site a (reply_to p (needs_by x.site a w.part) w.servers)
  outs_are p w i x a e d = ap (λ f. outs_of p f w) e ∙ ap (λ b. outs_by w.part.windows x.site b (reply_to p (needs_by x.site b w.part) w.servers)) d

-- what site t let out, of all that was let out
abbrev from : ℕ → List Out → List Out
from t = keep_only (λ o. eqb o.from t)

told_let : (s t : ℕ) → eqb s t ≡ false → (r : Reply) → answered s t r ≡ told_by t (from t (let_by t s r))
unfolding keep_only
told_let s t n Unreadable = refl
told_let s t n (Readable c b k lets) = ap (λ z. cond (z || lets s) (Answer t c b) (Barred t)) n ∙ go (lets s)
  where
    go : (l : Bool) → cond l (Answer t c b) (Barred t) ≡ told_by t (from t (cond l (out t s (Let c b) ∷ []) []))
    go true = rw (eq-eqb t t refl)
    go false = refl

-- what a page asks is let out by another site
from_other : (s t : ℕ) (m : What) (os : List Out) → eqb s t ≡ false → from t (out s t m ∷ os) ≡ from t os
unfolding keep_only
from_other s t m os n = rw n

told-asked : (s t : ℕ) (h d : Bytes) (r : Reply) → (t ≡ s → ⊥) → answered s t r ≡ told_by t (from t (cond (eqb t s) [] (out s t (Asked h d) ∷ let_by t s r)))
told-asked s t h d r n =
    let m : eqb s t ≡ false = ne_eqb s t (λ e. n (sym e)) in
    told_let s t m r ∙ ap (told_by t) (sym (from_other s t (Asked h d) (let_by t s r) m)) ∙ ap (λ b. told_by t (from t (cond b [] (out s t (Asked h d) ∷ let_by t s r)))) (sym (ne_eqb t s n))

module _ (S R : Type 0) where
  pub let_out-only : LetOutOnly S R
  let_out-only p w i x e = subst (λ f. Every (MayLetOut p w x) (outs_of p f w)) (sym e) (only_by p w x (act_of p.scripts x) refl)

  pub else-nothing : ElseNothing S R
  else-nothing p w = (
    λ i e. (ap (λ f. outs_of p f w) e, ap (λ f. exchanged p (TurnOf i) (needs_of p.scripts f w.part) (begun_by p.scripts i f w.part) w.servers) e),
    λ t h. refl,
  )

  pub told_is_let_out : ToldIsLetOut S R
  told_is_let_out p w i x t h d e a n =
      let r : Reply = (p.serve (asking w x.site t h d) (w.servers t)).reply in
      ap (λ u. nth i u.part.windows) (turn_is p i x w e (Asks t h d) a)
      ∙ nth-change i (owns (answered x.site t r)) (change i (stepped p.scripts) w.part.windows) (stepped p.scripts x) (nth-change i (stepped p.scripts) w.part.windows x e)
      ∙ ap {B = Option (Window S)} (λ m. Some (owns m (stepped p.scripts x))) (told-asked x.site t h d r n ∙ ap (λ os. told_by t (from t os)) (sym (outs_are p w i x (Asks t h d) e a)))

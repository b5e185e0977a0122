-- What holds after any number of steps, and what events keep of windows.
use Rattle.std.proofs.Common.{◌≡◌, ℕ, zero, suc, List, [], ◌∷◌, ◌++◌, Some, None, Option, sym, refl, subst, append_assoc, append-nil}
use Rattle.pages.specs.Sites.{Act, Idle, Asks, Says, Keeps, Looks, Opens, Told, Request, Reply, Scripts, Sites}
use Rattle.pages.specs.Browser.{Word, Window, Part, World, nth, change, act_of, stepped, owns, hears, fresh, acted, replied_to, begun_by, begun, needs, exchanged, happens, Event, Opening, TurnOf}
use Rattle.pages.specs.Runs.{iterate, trace}
use Rattle.pages.specs.Views.{concat}
use Rattle.pages.specs.Laws.{Every}

-- what each step keeps holds after any number of steps
pub always : {W : Type 0} (P : W → Type 0) (go : W → W) → ((x : W) → P x → P (go x)) → (n : ℕ) (x : W) → P x → P (iterate go n x)
unfolding iterate
always P go k zero x h = h
always P go k (suc n) x h = always P go k n (go x) (k x h)

-- an invariant over what has been seen so far
pub history :
    {W O : Type 0} (go : W → W) (see : W → List O) (Inv : List O → W → Type 0) → ((seen : List O) (x : W) → Inv seen x → Inv (seen ++ see x) (go x)) →
    (n : ℕ) (seen : List O) (x : W) → Inv seen x → Inv (seen ++ concat (trace go see n x)) (iterate go n x)
unfolding iterate trace concat
history go see Inv k zero seen x h = subst (λ s. Inv s x) (sym (append-nil seen)) h
history go see Inv k (suc n) seen x h =
    subst (λ s. Inv s (iterate go n (go x))) (append_assoc seen (see x) (concat (trace go see n (go x)))) (history go see Inv k n (seen ++ see x) (go x) (k seen x h))

module _ {A : Type 0} (P : A → Type 0) where
  pub every_change : (i : ℕ) (f : A → A) → ((x : A) → P x → P (f x)) → (xs : List A) → Every P xs → Every P (change i f xs)
  unfolding Every change
  every_change i f k [] h = tt
  every_change zero f k (x ∷ xs) h = (k x h.0, h.1)
  every_change (suc i) f k (x ∷ xs) h = (h.0, every_change i f k xs h.1)

  pub every_join : (xs : List A) (y : A) → Every P xs → P y → Every P (xs ++ (y ∷ []))
  unfolding Every
  every_join [] y h k = (k, tt)
  every_join (x ∷ xs) y h k = (h.0, every_join xs y h.1 k)

-- BEFORE A SERVER IS ASKED: what holds of the windows, if it stays where one runs, learns of its own doing or hears a word
module _ {S : Type 0} (L : List (Window S) → Type 0) (c : Scripts S) (runs : (i : ℕ) (xs : List (Window S)) → L xs → L (change i (stepped c) xs)) (learns : (i : ℕ) (m : Told) (xs : List (Window S)) → L xs → L (change i (owns m) xs)) (hearing : (i t : ℕ) (m : Word) (xs : List (Window S)) → L xs → L (change i (hears t m) xs)) where
  acted-keeps : (i s : ℕ) (a : Act) (b : Part S) → L b.windows → L (acted i s a b).windows
  acted-keeps i s Idle b h = h
  acted-keeps i s (Asks t l d) b h = h
  acted-keeps i s (Says j t d) b h = hearing j t _ b.windows h
  acted-keeps i s (Keeps d) b h = h
  acted-keeps i s Looks b h = learns i _ b.windows h
  acted-keeps i s (Opens t l) b h = h

  begun_by-keeps : (i : ℕ) (f : Option (Window S)) (b : Part S) → L b.windows → L (begun_by c i f b).windows
  begun_by-keeps i None b h = h
  begun_by-keeps i (Some x) b h = acted-keeps i x.site (act_of c x) _ (runs i b.windows h)

  pub begun-keeps : (e : Event) (b : Part S) → L b.windows → L (begun c e b).windows
  begun-keeps (Opening t l) b h = h
  begun-keeps (TurnOf i) b h = begun_by-keeps i (nth i b.windows) b h

-- in whose name a reply comes; in nobody's, a window is added
abbrev pub whose : Event → Request → Option ℕ
whose (Opening t h) a = None
whose (TurnOf i) a = a.from

-- ONCE A SERVER HAS REPLIED: what held before, and holds with every reply that may come
pub exchanged-keeps :
    {S R : Type 0} (P : Part S → Type 0) (p : Sites S R) (e : Event) (q : Option Request) (b : Part S) (r : ℕ → R) → P b → ((i : ℕ) (a : Request) (m : Reply) → q ≡ Some a → P (replied_to p.scripts i (whose e a) a m b)) →
    P (exchanged p e q b r).part
exchanged-keeps P p e None b r h k = h
exchanged-keeps P p (Opening t l) (Some a) b r h k = k 0 a _ refl
exchanged-keeps P p (TurnOf i) (Some a) b r h k = k i a _ refl

-- BOTH: what all windows have, if a new one has it
module _ {S R : Type 0} (P : Window S → Type 0) (p : Sites S R) where
  every_replied : (i : ℕ) (o : Option ℕ) (a : Request) (r : Reply) (b : Part S) → ((m : Told) (x : Window S) → P x → P (owns m x)) → P (fresh p.scripts a.site a.path r) → Every P b.windows → Every P (replied_to p.scripts i o a r b).windows
  every_replied i None a r b learns k h = every_join P b.windows _ h k
  every_replied i (Some s) a r b learns k h = every_change P i _ (learns _) b.windows h

  pub every_happens :
      ((x : Window S) → P x → P (stepped p.scripts x)) → ((m : Told) (x : Window S) → P x → P (owns m x)) → ((t : ℕ) (m : Word) (x : Window S) → P x → P (hears t m x)) →
      (e : Event) (w : World S R) → ((a : Request) (r : Reply) → needs p.scripts e w.part ≡ Some a → P (fresh p.scripts a.site a.path r)) → Every P w.part.windows → Every P (happens p e w).part.windows
  every_happens runs learns hearing e w k h =
      let b : Part S = begun p.scripts e w.part in
      let before : Every P b.windows =
      begun-keeps (Every P) p.scripts (λ i. every_change P i _ runs) (λ i m. every_change P i _ (learns m)) (λ i t m. every_change P i _ (hearing t m)) e w.part h in
      exchanged-keeps (λ c. Every P c.windows) p e (needs p.scripts e w.part) b w.servers before (λ i a m q. every_replied i (whose e a) a m b learns (k a m q) before)

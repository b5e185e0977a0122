-- The states of a family, when one server's state changes, and when none does.
use Rattle.std.proofs.Common.{◌≡◌, ℕ, suc, ◌<◌, ◌≤◌, Bool, true, false, cond, eqb, ltb, leb, ◌⊎◌, List, [], length, get_or, set, replicate, Some, None, vec_items, Option, sym, refl, ap, ◌∙◌, inl, inr, arith}
use lib.ListN.{length-replicate}
use Rattle.std.proofs.lemmas.Option.{slice_get_read, slice_get_past}
use Rattle.std.proofs.lemmas.List.{get_or-replicate}
use Rattle.std.proofs.lemmas.Bool.{cond-true, cond-false}
use Rattle.std.proofs.lemmas.Bool.Decides.{eqb_tells, leb_tells}
use Rattle.std.specs.Option.{option_map}
use Rattle.pages.specs.Browser.{at}
use Rattle.script_servers.specs.declared.family.ScriptServers.{ScriptServers}
use Rattle.script_servers.specs.declared.server.Server.{Server}
use Rattle.script_servers.specs.Family.{states_of}
use Rattle.script_servers.specs.Serving.{Player, player, serves, serving}
use Rattle.script_servers.specs.Views.{state_of, player_at}
use Rattle.script_servers.proofs.Places.{nth-set}

either_mapped : {X Y : Type 0} (f : X → Y) (b : Bool) (x : X) (o : Option X) → option_map f (cond b (Some x) o) ≡ cond b (Some (f x)) (option_map f o)
either_mapped f true x o = refl
either_mapped f false x o = refl

module _ (sites : List (List ℕ × ℕ)) (xs : List Server) (i : ℕ) where
  abbrev one : Server → Player
  one x = player sites (state_of x)

  -- one server is put in another's place
  pub states_set : (x : Server) → i < length xs → player_at sites (set xs i x) ≡ at i (Some (one x)) (player_at sites xs)
  states_set x h = λ j. λ s. (ap (option_map one) (nth-set xs i x h s) ∙ either_mapped one (eqb s i) x _) j

  -- the server that stands there
  pub player_is : (x : Server) → i < length xs → x ≡ get_or xs i x → player_at sites xs i ≡ Some (one x)
  player_is x h e = ap (option_map one) (slice_get_read xs (length xs) i x refl h e)

  pub player-past : length xs ≤ i → player_at sites xs i ≡ None
  player-past h = ap (option_map one) (slice_get_past xs i h)

  module _ (request : List ℕ) (x : Server) (h : i < length xs) (e : x ≡ get_or xs i x) where
    -- one server serves
    pub served-answer : (serves request (one x)).0 ≡ (serving i request (player_at sites xs i)).0
    served-answer = ap (λ o. (serving i request o).0) (sym (player_is x h e))

    pub served_states : (y : Server) → one y ≡ (serves request (one x)).1 → player_at sites (set xs i y) ≡ at i (serving i request (player_at sites xs i)).1 (player_at sites xs)
    served_states y a =
        states_set y h
        ∙ ap (λ o. at i o (player_at sites xs)) (ap Some a ∙ ap (λ o. (serving i request o).1) (sym (player_is x h e)))

-- where there is no server nothing changes
module _ (f : ℕ → Option Player) (i : ℕ) (request : List ℕ) (none : f i ≡ None) where
  kept_by : (s : ℕ) → ((eqb s i ≡ true) × (s ≡ i)) ⊎ ((eqb s i ≡ false) × (s ≡ i → ⊥)) → f s ≡ cond (eqb s i) (serving i request (f i)).1 (f s)
  kept_by s (inl p) = ap f p.1 ∙ none ∙ ap (λ o. (serving i request o).1) (sym none) ∙ sym (cond-true (eqb s i) _ _ p.0)
  kept_by s (inr p) = sym (cond-false (eqb s i) _ _ p.0)

  pub unserved_states : f ≡ at i (serving i request (f i)).1 f
  unserved_states = λ j. λ s. kept_by s (eqb_tells s i) j

  pub unserved_answer : [] ≡ (serving i request (f i)).0
  unserved_answer = ap (λ o. (serving i request o).0) (sym none)

-- two servers that are compared
module _ (sites others : List (List ℕ × ℕ)) (xs ys : List Server) (i : ℕ) (x y : Server) (h : i < length xs) (e : x ≡ get_or xs i x) (k : i < length ys) (f : y ≡ get_or ys i y) where
  pub same_from : sites ≡ others → state_of x ≡ state_of y → player_at sites xs i ≡ player_at others ys i
  same_from p q = player_is sites xs i x h e ∙ ap Some (λ j. player (p j) (q j)) ∙ sym (player_is others ys i y k f)

  pub same_to : player_at sites xs i ≡ player_at others ys i → player sites (state_of x) ≡ player others (state_of y)
  same_to q =
      let one : ◌≡◌ {A = Option Player} (Some (player sites (state_of x))) (Some (player others (state_of y))) = sym (player_is sites xs i x h e) ∙ q ∙ player_is others ys i y k f in
      cc

-- a new family
module _ (sites : List (List ℕ × ℕ)) (x : Server) where
  new_by : (s : ℕ) → ((leb (suc s) 16 ≡ true) × (suc s ≤ 16)) ⊎ ((leb (suc s) 16 ≡ false) × (16 < suc s)) → player_at sites (replicate 16 x) s ≡ cond (ltb s 16) (Some (player sites (state_of x))) None
  new_by s (inl p) =
      let within : s < length (replicate 16 x) = omega (arith, p.1, length-replicate 16 x) in
      player_is sites (replicate 16 x) s x within (sym (get_or-replicate 16 s x x p.1)) ∙ sym (cond-true (ltb s 16) _ _ p.0)
  new_by s (inr p) =
      let past : length (replicate 16 x) ≤ s = omega (arith, p.1, length-replicate 16 x) in
      player-past sites (replicate 16 x) s past ∙ sym (cond-false (ltb s 16) _ _ p.0)

  pub new_states : (xs : List Server) → xs ≡ replicate 16 x → player_at sites xs ≡ (λ s. cond (ltb s 16) (Some (player sites (state_of x))) None)
  new_states xs e = ap (player_at sites) e ∙ (λ j. λ s. new_by s (leb_tells (suc s) 16) j)

-- every family has 16 servers
pub family_long : (x : ScriptServers) (i : ℕ) → i < 16 → i < length (vec_items x.servers)
family_long x i h = omega (arith, x.servers.ok, x.all)

pub family_past : (x : ScriptServers) (i : ℕ) → 16 ≤ i → states_of x i ≡ None
family_past x i h =
    let past : length (vec_items x.servers) ≤ i = omega (arith, x.servers.ok, x.all) in
    player-past _ (vec_items x.servers) i past

pub both_past : (x y : ScriptServers) (i : ℕ) → 16 ≤ i → states_of x i ≡ states_of y i
both_past x y i h = family_past x i h ∙ sym (family_past y i h)

-- THE PROMISE: of a site, others learn what it lets out, and nothing else. Each statement is a type, and a proof is a term of it.
use Rattle.std.specs.Prelude.{◌≡◌, ℕ, zero, suc, false, cond, List, [], ◌∷◌, Some, None, Option, ◌==◌, ◌≢◌}
use Rattle.pages.specs.Sites.{Bytes, Idle, Told, Request, Unreadable, Sites}
use Rattle.pages.specs.Browser.{Event}
use Rattle.pages.specs.Outs.{Out, Group, by_others, keep_only, let_out}
use Rattle.pages.specs.Runs.{Run, Settings, trace, step, after, begin, event_now, outs_now, request_now}
use Rattle.pages.specs.Views.{view_of, Alike}

-- The same scripts and servers but for a group, and as many sites.
pub record Others {S R : Type 0} (h : Group) (p q : Sites S R) : Type 0 where
  pub sites : p.scripts.sites ≡ q.scripts.sites
  pub act : (s : ℕ) (x : S) (t : Told) → h s ≡ false → p.scripts.act s x t ≡ q.scripts.act s x t
  pub next : (s : ℕ) (x : S) (t : Told) → h s ≡ false → p.scripts.next s x t ≡ q.scripts.next s x t
  pub begin : (s : ℕ) (d : Option Bytes) → h s ≡ false → p.scripts.begin s d ≡ q.scripts.begin s d
  pub serve : (a : Request) (x : R) → h a.site ≡ false → p.serve a x ≡ q.serve a x

-- Two runs at a moment: the worlds are alike but for a group, and the same is still to be done.
pub record AlikeRuns {S R : Type 0} (h : Group) (x y : Run S R) : Type 0 where
  pub agenda : x.agenda ≡ y.agenda
  pub world : Alike h x.world y.world

-- A request, if it is to a site outside the group.
abbrev pub to_others : Group → Option Request → Option Request
to_others h None = None
to_others h (Some a) = cond (h a.site) None (Some a)

module _ {S R : Type 0} where
  -- What the group lets out to the outside in each of the first n events.
  abbrev pub let_outs : Sites S R → Group → ℕ → Run S R → List (List Out)
  let_outs p h = trace (step p) (λ x. let_out h (outs_now p x))

  -- What all others let out in each.
  abbrev pub others_outs : Sites S R → Group → ℕ → Run S R → List (List Out)
  others_outs p h = trace (step p) (λ x. keep_only (by_others h) (outs_now p x))

  -- What others' servers are asked in each.
  abbrev pub others_requests : Sites S R → Group → ℕ → Run S R → List (Option Request)
  others_requests p h = trace (step p) (λ x. to_others h (request_now p x))

  -- Which events there were.
  abbrev pub events : Sites S R → ℕ → Run S R → List (Option Event)
  events p = trace (step p) event_now

-- Everything of all others is the same after n events, and was in each of them: what is theirs, what they let out, what their servers are asked, and whose turn it was.
pub record SameForOthers {S R : Type 0} (h : Group) (p q : Sites S R) (x y : Run S R) (n : ℕ) : Type 0 where
  pub runs : AlikeRuns h (after p n x) (after q n y)
  pub same_events : events p n x ≡ events q n y
  pub same_outs : others_outs p h n x ≡ others_outs q h n y
  pub same_requests : others_requests p h n x ≡ others_requests q h n y

-- The same sites, but the group's pages do nothing and its servers give answers that can't be read.
abbrev pub silenced : {S R : Type 0} → Group → Sites S R → Sites S R
silenced h p =
    record {
      scripts = record {
        sites = p.scripts.sites;
        act = λ s x t. cond (h s) Idle (p.scripts.act s x t);
        next = p.scripts.next;
        begin = p.scripts.begin;
      };
      serve = λ a x. cond (h a.site) (record { reply = Unreadable; state = x }) (p.serve a x);
    }

-- So many empty lists.
unfoldable pub nothings : ℕ → List (List Out)
nothings zero = []
nothings (suc n) = [] ∷ nothings n

-- The group of one site.
abbrev pub only : ℕ → Group
only v s = s == v

-- NOTHING ELSE IS LEARNED. Two runs that are alike but for a group, over sites that are the same but for the group: as long as the group lets out the same in both, everything of all others is the same, whatever else the group is, has, knows and does.
abbrev pub NothingElse : Type 0 → Type 0 → Type 0
NothingElse S R = (h : Group) (p q : Sites S R) (x y : Run S R) → Others h p q → AlikeRuns h x y → (n : ℕ) → let_outs p h n x ≡ let_outs q h n y → SameForOthers h p q x y n

-- The same from the settings on: servers begin alike but for the group, and the browser has nothing yet.
abbrev pub FromSettings : Type 0 → Type 0 → Type 0
FromSettings S R =
    (h : Group) (p q : Sites S R) (g : Settings) (r r' : ℕ → R) → Others h p q → ((s : ℕ) → h s ≡ false → r s ≡ r' s) →
    (n : ℕ) → let_outs p h n (begin g r) ≡ let_outs q h n (begin g r') → SameForOthers h p q (begin g r) (begin g r') n

-- AS IF IT WERE NOT. A group that lets nothing out might as well do nothing and answer nothing: all others are the same.
abbrev pub AsIfNot : Type 0 → Type 0 → Type 0
AsIfNot S R = (h : Group) (p : Sites S R) (g : Settings) (r : ℕ → R) (n : ℕ) → let_outs p h n (begin g r) ≡ nothings n → SameForOthers h p (silenced h p) (begin g r) (begin g r) n

-- ONE SITE, in words of its own: if site v lets out the same in both runs, the view of every other site is the same at every moment.
abbrev pub OneSite : Type 0 → Type 0 → Type 0
OneSite S R =
    (v : ℕ) (p q : Sites S R) (g : Settings) (r r' : ℕ → R) → Others (only v) p q → ((s : ℕ) → (s ≢ v) → r s ≡ r' s) →
    (n : ℕ) → let_outs p (only v) n (begin g r) ≡ let_outs q (only v) n (begin g r') →
    (s : ℕ) → (s ≢ v) → view_of s (after p n (begin g r)).world ≡ view_of s (after q n (begin g r')).world

-- Tables of sites, decided by their hosts and ports.
use Rattle.std.proofs.Common.{◌≡◌, ℕ, Bool, ◌&&◌, eqb, List, Decides, sym, refl, ◌∙◌}
use Rattle.std.specs.Cmp.Lexicographic.{pointwise}
use Rattle.std.specs.Cmp.Derive.Mapped.{pointwise-map}
use Rattle.std.proofs.lemmas.Bool.{and_parts, and_from}
use Rattle.std.proofs.lemmas.Bool.Decides.{Decides-eqb}
use Rattle.std.proofs.lemmas.Slice.Eq.{slice_eq-Decides}
use Rattle.addresses.specs.declared.Site.{Site}
use Rattle.addresses.specs.Views.{site_of, site_eq}
use Rattle.script_servers.specs.Views.{sites_of}

abbrev same_parts : List ℕ × ℕ → List ℕ × ℕ → Bool
same_parts a b = eqb a.1 b.1 && pointwise eqb a.0 b.0

pub parts_decide : (a b : List ℕ × ℕ) → Decides (same_parts a b) (a ≡ b)
parts_decide a b =
    let port = Decides-eqb a.1 b.1 in
    let host = slice_eq-Decides Decides-eqb a.0 b.0 _ refl in (
      λ t. let p = and_parts (eqb a.1 b.1) (pointwise eqb a.0 b.0) t in λ i. (host.0 p.1 i, port.0 p.0 i),
      λ e. and_from (eqb a.1 b.1) (pointwise eqb a.0 b.0) (port.1 (λ i. (e i).1)) (host.1 (λ i. (e i).0)),
    )

pub sites_decide : (a b : List Site) (r : Bool) → r ≡ pointwise site_eq a b → Decides r (sites_of a ≡ sites_of b)
sites_decide a b r e = slice_eq-Decides parts_decide (sites_of a) (sites_of b) r (e ∙ sym (pointwise-map site_of same_parts a b))

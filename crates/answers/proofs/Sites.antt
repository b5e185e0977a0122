-- Sites that are compared. Assumes nothing.
use Rattle.std.proofs.Common.{◌≡◌, ℕ, Bool, eqb, List, Decides, ap}
use Rattle.std.specs.Str.{bytes_eq}
use Rattle.std.proofs.lemmas.Slice.Eq.{bytes_eq-Decides}
use Rattle.std.proofs.lemmas.Bool.Decides.{same_from_decides, Decides-eqb, Decides-and, Decides-like}
use Rattle.answers.specs.Seen.{same_site}

pub same_site_is : (a b : List ℕ × ℕ) (r : Bool) → Decides r (a ≡ b) → r ≡ same_site a b
same_site_is a b r h =
    same_from_decides r (same_site a b) h
    (Decides-like (same_site a b) (λ (p : (a.0 ≡ b.0) × (a.1 ≡ b.1)). λ i. (p.0 i, p.1 i)) (λ q. (ap (λ x. x.0) q, ap (λ x. x.1) q))
    (Decides-and (bytes_eq a.0 b.0) (eqb a.1 b.1) (bytes_eq-Decides a.0 b.0) (Decides-eqb a.1 b.1)))

-- Worlds that are alike but for a group, part by part; and the same said by views.
use Rattle.std.proofs.Common.{◌≡◌, ℕ, false, sym, refl, ap, ◌∙◌, subst}
use Rattle.pages.specs.Sites.{Told}
use Rattle.pages.specs.Browser.{Window, World, change, owns}
use Rattle.pages.specs.Outs.{Group}
use Rattle.pages.specs.Views.{View, view_of, Alike}
use Rattle.pages.proofs.Same.{SameBut, same_refl, same_sym, same_trans, same_change, same-done, same_row, same_views, by_views}
use Rattle.pages.proofs.Places.{Sited}

pub record Close {S R : Type 0} (h : Group) (w u : World S R) : Type 0 where
  pub windows : SameBut h w.part.windows u.part.windows
  pub tokens : (s : ℕ) → h s ≡ false → w.part.tokens s ≡ u.part.tokens s
  pub kept : (s : ℕ) → h s ≡ false → w.part.kept s ≡ u.part.kept s
  pub servers : (s : ℕ) → h s ≡ false → w.servers s ≡ u.servers s

module _ {S R : Type 0} {h : Group} where
  pub close_refl : (w : World S R) → Close h w w
  close_refl w = record { windows = same_refl w.part.windows; tokens = λ s n. refl; kept = λ s n. refl; servers = λ s n. refl }

  pub close_sym : {w u : World S R} → Close h w u → Close h u w
  close_sym r = record { windows = same_sym r.windows; tokens = λ s n. sym (r.tokens s n); kept = λ s n. sym (r.kept s n); servers = λ s n. sym (r.servers s n) }

  pub close_trans : {w u t : World S R} → Close h w u → Close h u t → Close h w t
  close_trans r q =
      record { windows = same_trans r.windows q.windows; tokens = λ s n. r.tokens s n ∙ q.tokens s n; kept = λ s n. r.kept s n ∙ q.kept s n; servers = λ s n. r.servers s n ∙ q.servers s n }

  -- the window with number i, of site s, is to be told something of its own doing
  pub told_same :
      (i s : ℕ) (a b : Told) {w u : World S R} → Close h w u → Sited i s w.part.windows → (h s ≡ false → a ≡ b) →
      SameBut h (change i (owns a) w.part.windows) (change i (owns b) u.part.windows)
  told_same i s a b {w} {u} r m e =
      same_change i (owns a) (owns b)
      (λ x y at_x at_y z. same-done (owns a) (owns b) (λ c. refl) (λ c. refl) x y (λ n. ap {B = Window S} (λ c. owns c x) (e (subst (λ c. h c ≡ false) (m x at_x) n))) z)
      r.windows

  view_same : (s : ℕ) (w u : World S R) → h s ≡ false → Close h w u → view_of s w ≡ view_of s u
  view_same s w u n r =
      let a = same_views r.windows s n 0 in
      let b = r.tokens s n in
      let c = r.kept s n in
      let d = r.servers s n in
      cc

  pub alike_close : {w u : World S R} → Close h w u → Alike h w u
  alike_close {w} {u} r = record { public = same_row r.windows; views = λ s n. view_same s w u n r }

  pub close_alike : {w u : World S R} → Alike h w u → Close h w u
  close_alike {w} {u} r =
      record {
        windows = by_views 0 w.part.windows u.part.windows r.public (λ v n. ap {A = View S R} (λ x. x.windows) (r.views v n));
        tokens = λ s n. ap {A = View S R} (λ x. x.token) (r.views s n);
        kept = λ s n. ap {A = View S R} (λ x. x.kept) (r.views s n);
        servers = λ s n. ap {A = View S R} (λ x. x.server) (r.views s n);
      }

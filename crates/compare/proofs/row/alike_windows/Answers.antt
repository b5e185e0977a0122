use Rattle.std.proofs.Common.{sym, refl, ◌∙◌}
use mathlib.Core.Bool.{false≢true}
use Rattle.std.proofs.lemmas.Bool.{eq-eqb, ne_eqb}
use Rattle.windows.specs.Windows.{window_of}
use Rattle.compare.proofs.Rows.{one-site, own-alike, other_decides}
use Rattle.compare.proofs.row.alike_windows.Goals as goal

pub returns-else-eq : goal.returns-else-eq
returns-else-eq c = (
  λ e. absurd (false≢true (sym c.if-eq.false ∙ e)),
  λ a. c.eq.ensures.same.1 (c.site.ensures ∙ one-site (window_of c.args.one.now) (window_of c.args.two.now) a ∙ sym c.site-2.ensures),
)

pub returns-then-eq-2 : goal.returns-then-eq-2
returns-then-eq-2 c =
    let site = sym c.site.ensures ∙ c.if-eq.ensures.same.0 refl ∙ c.site-2.ensures in
    let own = sym c.site-then-eq.ensures ∙ c.if-eq-2.ensures.same.0 refl in
    (λ e. own-alike (window_of c.args.one.now) (window_of c.args.two.now) (eq-eqb _ _ own) site, λ a. c.if-eq-2.true)

pub returns-else-eq-2 : goal.returns-else-eq-2
returns-else-eq-2 c =
    other_decides (window_of c.args.one.now) (window_of c.args.two.now) _
    (ne_eqb _ _ (λ e. false≢true (c.if-eq-2.ensures.same.1 (c.site-then-eq.ensures ∙ e))))
    c.eq-else-eq-2.ensures.same

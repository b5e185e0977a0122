use Rattle.std.proofs.Common.{◌≡◌, ℕ, ◌+◌, ◌<◌, false, eqb, List, length, sym, arith}
use Rattle.std.proofs.lemmas.Bool.{eqb-false}
use Rattle.settings.specs.Lines.{lines, turn_line}
use Rattle.settings.proofs.Cuts.{next-shorter}
use Rattle.settings.proofs.Turning.{goes_on, turns_bad}
use Rattle.settings.proofs.check_turns.Goals as goal

some : (s : List ℕ) → eqb (length s) 0 ≡ false → 0 < length s
some s e = let h = eqb-false (length s) 0 e in omega arith

pub loop-next-smaller : goal.loop-next-smaller
loop-next-smaller c = next-shorter turn_line c.loop-next.rest.now c.in-Some.next.now c.in-Some.field-0-0 c.in-Some.ensures

pub loop-next-preserved : goal.loop-next-preserved
loop-next-preserved c = (
  goes_on (c.args.before + 1) (c.loop-next.line + 1) (lines c.args.text.now) c.loop-next.rest.now c.in-Some.next.now c.in-Some.field-0-0 (sym c.in-Some.ensures) c.loop-next.invariant.0,
  omega (arith, next-shorter turn_line c.loop-next.rest.now c.in-Some.next.now c.in-Some.field-0-0 c.in-Some.ensures, c.loop-next.invariant.1),
)

pub returns : goal.returns
returns c =
    sym (turns_bad (c.args.before + 1) (c.loop-next.line + 1) (lines c.args.text.now) c.loop-next.rest.now (sym c.in_default.ensures) c.loop-next.invariant.0
    (some c.loop-next.rest.now (sym c.if-is_empty.ensures)))

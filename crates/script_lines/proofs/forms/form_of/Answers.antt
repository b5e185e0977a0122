use Rattle.std.proofs.Common.{codes, sym, ap, rules, arith}
use Rattle.std.proofs.lemmas.Slice.Eq.{text_from_reads}
use Rattle.script_lines.specs.Forms.{form_of}
use Rattle.script_lines.proofs.forms.form_of.Goals as goal

-- the two longest mnemonics
pub returns-in-product : goal.returns-in-product
returns-in-product c = sym (ap form_of (text_from_reads c.args.w.now (codes "product") (omega arith) (search rules)))

pub returns-in-106 : goal.returns-in-106
returns-in-106 c = sym (ap form_of (text_from_reads c.args.w.now (codes "jump_if") (omega arith) (search rules)))

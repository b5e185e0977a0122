-- What a line stands for whose front may be a name. Assumes nothing.
use Rattle.std.specs.Prelude.{ℕ, List, ◌++◌}
use Rattle.lines.specs.declared.line.NamedLine.{NamedLine}

-- its bytes
abbrev pub bytes_of : NamedLine → List ℕ
bytes_of l = l.name.now ++ l.others.now

-- Mnemonics.
use Rattle.std.specs.Prelude.{ℕ, cond, List, Some, None, codes, Option}
use Rattle.std.specs.Str.{bytes_eq}
use Rattle.script_lines.specs.declared.forms.Form.{Form}
use Rattle.script_lines.specs.declared.forms.Tail.{Tail}
use Rattle.script_lines.specs.declared.forms.Tail.TheVariants.{Fixed, Number, Target}

-- what a mnemonic says: the kind, how many registers, and the number or what it is
abbrev pub shape : ℕ → ℕ → Tail → Option Form
shape k n t = Some (record { kind = k; registers = n; tail = t })

-- the mnemonics of waits
abbrev pub wait_form : List ℕ → Option Form
wait_form w =
    cond (bytes_eq w (codes "wait")) (shape 10 0 (Fixed 0))
    (cond (bytes_eq w (codes "ask")) (shape 10 3 (Fixed 1))
    (cond (bytes_eq w (codes "say")) (shape 10 3 (Fixed 2))
    (cond (bytes_eq w (codes "keep")) (shape 10 1 (Fixed 3))
    (cond (bytes_eq w (codes "look")) (shape 10 0 (Fixed 4))
    (cond (bytes_eq w (codes "open")) (shape 10 2 (Fixed 5)) None)))))

-- the mnemonics
abbrev pub form_of : List ℕ → Option Form
form_of w =
    cond (bytes_eq w (codes "const")) (shape 0 1 Number)
    (cond (bytes_eq w (codes "move")) (shape 1 2 (Fixed 0))
    (cond (bytes_eq w (codes "sum")) (shape 2 3 (Fixed 0))
    (cond (bytes_eq w (codes "product")) (shape 3 3 (Fixed 0))
    (cond (bytes_eq w (codes "equal")) (shape 4 3 (Fixed 0))
    (cond (bytes_eq w (codes "less")) (shape 5 3 (Fixed 0))
    (cond (bytes_eq w (codes "jump")) (shape 6 0 Target)
    (cond (bytes_eq w (codes "jump_if")) (shape 7 1 Target)
    (cond (bytes_eq w (codes "load")) (shape 8 2 (Fixed 0))
    (cond (bytes_eq w (codes "store")) (shape 9 2 (Fixed 0))
    (wait_form w))))))))))

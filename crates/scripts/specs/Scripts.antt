-- What a script stands for: its steps.
use Rattle.std.specs.Prelude.{List, Some, None, Ok, Err, Option, Result}
use Rattle.bounded.specs.Fixed.{items_of}
use Rattle.scripts.specs.declared.Step.{Step}
use Rattle.scripts.specs.declared.Unreadable.{Unreadable}
use Rattle.scripts.specs.declared.script.Script.{Script}

-- the steps of a script
abbrev pub steps_of : Script → List Step
steps_of script = items_of script.steps

-- what a reader answers, by the steps
abbrev pub steps_read : Result Script Unreadable → Result (List Step) Unreadable
steps_read (Ok script) = Ok (steps_of script)
steps_read (Err fault) = Err fault

-- the steps of a script, if there is one
abbrev pub steps_taken : Option Script → Option (List Step)
steps_taken (Some script) = Some (steps_of script)
steps_taken None = None

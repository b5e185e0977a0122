-- What a window stands for.
use Rattle.std.specs.Prelude.{ℕ, cond, List, [], length, nat_le}
use Rattle.scripts.specs.declared.Step.{Step}
use Rattle.scripts.specs.Scripts.{steps_of}
use Rattle.machine.specs.declared.Told.{Told as MachineTold}
use Rattle.machine.specs.Script.{State, state, initial}
use Rattle.bounded.specs.Texts.{text_of}
use Rattle.bounded.specs.Numbers.{number_of}
use Rattle.pages.specs.Sites.{Bytes, Begun}
use Rattle.pages.specs.Browser.{Window, owns}
use Rattle.windows.specs.declared.process.Process.{Process}
use Rattle.windows.specs.declared.window.Window.{Window as WindowHere}
use Rattle.windows.specs.Scripts.{told_of}
use Rattle.windows.specs.Queues.{words_of}

-- The state of a script that runs.
abbrev pub state_of : Process → State
state_of p = state p.machine p.memory (steps_of p.script)

-- A window: its site, its script's state, what it is to be told of its own doing, and the words that wait for it.
abbrev pub window_of : WindowHere → Window State
window_of w = record {
  site = number_of w.site;
  state = state_of w.process;
  own = told_of w.own (text_of w.bytes);
  words = words_of w.queue;
}

-- A window that has just been opened, with these steps.
abbrev pub opened : ℕ → Bytes → List Step → Window State
opened site path steps = record { site = site; state = initial steps; own = Begun path; words = [] }

-- A window is to be told of its own doing, with at most 4,096 bytes; with more it stays as it is.
abbrev pub tells : MachineTold → Bytes → Window State → Window State
tells told bs x = cond (nat_le (length bs) 4096) (owns (told_of told bs) x) x

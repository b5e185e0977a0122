-- What is let out, and which fault is noted, by the two halves of a turn.
use Rattle.std.specs.Prelude.{ℕ, cond, not, ◌&&◌, List, [], ◌∷◌, Some, None, Ok, Err, Option, Result, ◌==◌}
use Rattle.octets.specs.Answers.{Answer, Read, Fault}
use Rattle.answers.specs.Answers.{Content, read_answer}
use Rattle.scripts.specs.declared.Step.{Step}
use Rattle.scripts.specs.declared.Unreadable.{Unreadable}
use Rattle.scripts.specs.Page.{page_in}
use Rattle.scripts.specs.Page as page
use Rattle.machine.specs.Script.{State}
use Rattle.machine.specs.Turn as turn
use Rattle.pages.specs.Sites.{Bytes, Scripts, Act, Idle, Asks, Says, Keeps, Looks, Opens, Request, Reply}
use Rattle.pages.specs.Browser.{Window, Part, nth, told_now, act_of}
use Rattle.pages.specs.Outs.{Out, out, Asked, Said, Opened, is_of, let_by}
use Rattle.windows.specs.Scripts.{outcome_in}
use Rattle.browser.specs.Wire.{kind_for}

-- What the page of a turn lets out.
abbrev pub page_outs : {S : Type 0} → List (Window S) → ℕ → Act → List Out
page_outs ws s Idle = []
page_outs ws s (Asks t h d) = cond (t == s) [] (out s t (Asked h d) ∷ [])
page_outs ws s (Says j t d) = cond (not (t == s) && is_of t (nth j ws)) (out s t (Said j d) ∷ []) []
page_outs ws s (Keeps d) = []
page_outs ws s Looks = []
page_outs ws s (Opens t h) = out s t (Opened h) ∷ []

-- What the asked server lets out to a page of another site.
abbrev pub server_outs_to : Option ℕ → ℕ → Reply → List Out
server_outs_to None t r = []
server_outs_to (Some s) t r = cond (t == s) [] (let_by t s r)

-- What the asked server lets out, if one was asked.
abbrev pub server_outs : Option Request → Reply → List Out
server_outs None r = []
server_outs (Some q) r = server_outs_to q.from q.site r

-- The number of the fault in a window's run, and 0 for none, where n sites are named.
abbrev pub run_fault : ℕ → Option (Window State) → ℕ
run_fault n None = 0
run_fault n (Some x) = turn.fault_number (outcome_in n x.state (told_now x))

-- The number of a fault in a page, and 0 for none.
abbrev pub unreadable_number : Option Unreadable → ℕ
unreadable_number None = 0
unreadable_number (Some fault) = page.fault_number fault

-- A page that can't be read has a number, where a page was asked for.
abbrev pub steps_fault : Result (List Step) Unreadable → ℕ
steps_fault (Ok steps) = 0
steps_fault (Err fault) = page.fault_number fault

abbrev pub content_fault : Option ℕ → Content → ℕ
content_fault (Some s) a = 0
content_fault None a = steps_fault (page_in a.body)

abbrev pub read_fault : Option ℕ → Answer Content → ℕ
read_fault from (Fault n) = n
read_fault from (Read a) = content_fault from a

-- The number of the fault in an answer, and 0 for none and where no server was asked.
abbrev pub answer_fault : Option Request → Bytes → ℕ
answer_fault None bs = 0
answer_fault (Some q) bs = read_fault q.from (read_answer (kind_for q.from) bs)

-- What the page of the window that is there, if one is, lets out in its turn.
abbrev pub page_outs_of : Scripts State → Option (Window State) → Part State → List Out
page_outs_of c None b = []
page_outs_of c (Some x) b = page_outs b.windows x.site (act_of c x)

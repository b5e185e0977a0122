-- What the code's values stand for. Assumes nothing.
use Rattle.std.specs.Prelude.{ℕ, Bool, List, Ok, Err, Result, nat_eq}
use Rattle.std.specs.Ordering.{on, eq_of_both}
use Rattle.std.specs.Cmp.Lexicographic.{pointwise}
use Rattle.addresses.specs.declared.Address.{Address}
use Rattle.addresses.specs.declared.Site.{Site}
use Rattle.addresses.specs.declared.AddressFault.{AddressFault}
use Rattle.addresses.specs.declared.AddressFault.TheVariants.{Unreadable}
use Rattle.octets.specs.Answers.{Answer, Read, Fault}

abbrev pub fault_number : AddressFault → ℕ
fault_number Unreadable = 1

abbrev pub address_of : Address → List ℕ × ℕ × List ℕ
address_of a = (a.host.now, a.port, a.path.now)

abbrev pub site_of : Site → List ℕ × ℕ
site_of a = (a.host.now, a.port)

-- are host and port the same?
abbrev pub site_eq : Site → Site → Bool
site_eq = eq_of_both (on (λ s. s.port) nat_eq) (on (λ s. s.host.now) (pointwise nat_eq))

abbrev pub answer_of : Result Address AddressFault → Answer (List ℕ × ℕ × List ℕ)
answer_of (Ok a) = Read (address_of a)
answer_of (Err e) = Fault (fault_number e)

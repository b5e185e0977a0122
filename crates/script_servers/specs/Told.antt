-- What a server that a script plays is told of a request: five numbers, and bytes.
use Rattle.std.specs.Prelude.{ℕ, ◌+◌, min, cond, List, [], ◌∷◌, ◌++◌, length, Some, None, Option, nat_le}
use Rattle.octets.specs.Buffers.{written}
use Rattle.answers.specs.Seen.{same_site}
use Rattle.answers.specs.declared.Kind.{Kind}
use Rattle.answers.specs.declared.Kind.TheVariants.{Asked, Page}
use Rattle.requests.specs.Requests.{Asking}
use Rattle.machine.specs.Script.{State, state}
use Rattle.machine.specs.Tells.{waiting, tells}

-- a page asks, or a page is asked for
abbrev pub kind_of : Option (List ℕ × ℕ) → Kind
kind_of (Some site) = Asked
kind_of None = Page

-- the same as a number
abbrev pub kind_number : Kind → ℕ
kind_number Asked = 6
kind_number Page = 7

-- the number of a site in a table, counted from n on; 16 for one that has none
unfoldable pub number_from : ℕ → List (List ℕ × ℕ) → List ℕ × ℕ → ℕ
number_from n [] site = 16
number_from n (x ∷ xs) site = cond (nat_le 16 n) 16 (cond (same_site x site) n (number_from (n + 1) xs site))

-- the number of the asking site; 16 also where nobody asks
abbrev pub asker_in : List (List ℕ × ℕ) → Option (List ℕ × ℕ) → ℕ
asker_in sites None = 16
asker_in sites (Some site) = number_from 0 sites site

-- how long a part of a request is, as it is told
abbrev pub size : List ℕ → ℕ
size bs = min (length bs) 4096

-- how long the token is; 65 for none
abbrev pub token_size : Option (List ℕ) → ℕ
token_size None = 65
token_size (Some token) = size token

abbrev pub token_bytes : Option (List ℕ) → List ℕ
token_bytes None = []
token_bytes (Some token) = token

-- in registers 0 to 4: the kind, the body's length, the asking site, the path's length, the token's length
abbrev pub numbers_of : List (List ℕ × ℕ) → Asking → List ℕ
numbers_of sites q =
    kind_number (kind_of q.origin) ∷ size q.body ∷ asker_in sites q.origin ∷ size q.path ∷ token_size q.token ∷ []

-- in memory from its first place on: body, path and token
abbrev pub bytes_of : Asking → List ℕ
bytes_of q = q.body ++ (q.path ++ token_bytes q.token)

-- a script that waits is told a request; one that runs or has ended is told nothing
abbrev pub hears : List (List ℕ × ℕ) → Asking → State → State
hears sites q x =
    state (tells x.machine.status (numbers_of sites q) x.machine)
    (cond (waiting x.machine.status) (written (bytes_of q) x.memory) x.memory) x.script

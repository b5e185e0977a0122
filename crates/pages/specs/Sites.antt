-- What sites bring along: scripts and servers. Nothing is known of either: they are any functions over any types of states.
use Rattle.std.specs.Prelude.{ℕ, Bool, List, Option}

-- A string of bytes.
abbrev pub Bytes : Type 0
Bytes = List ℕ

-- What a script does in its turn: nothing; ask a site's server; say something to a window, if it is of the named site; keep something in its site's store; look at what is kept; open a window of a site.
pub data Act : Type 0 where
  Idle : Act
  Asks : (site : ℕ) (path body : Bytes) → Act
  Says : (window site : ℕ) (what : Bytes) → Act
  Keeps : (what : Bytes) → Act
  Looks : Act
  Opens : (site : ℕ) (path : Bytes) → Act

-- What a script is told in its turn: nothing; that its page has begun; a server's answer; that a server gave an answer that it may not see; what a window of a site said; what is kept.
pub data Told : Type 0 where
  Silence : Told
  Begun : (path : Bytes) → Told
  Answer : (site code : ℕ) (body : Bytes) → Told
  Barred : (site : ℕ) → Told
  Heard : (site : ℕ) (what : Bytes) → Told
  Kept : (what : Bytes) → Told

-- What is sent to a site's server: from which site's page (from none where a page is opened), with the token that the server set, if it set one.
pub record Request : Type 0 where
  pub site : ℕ
  pub from : Option ℕ
  pub token : Option Bytes
  pub path : Bytes
  pub body : Bytes

-- What a browser reads of an answer: that it can't be read; or code and body, the token that it sets, if it sets one, and which other sites it lets see it.
pub data Reply : Type 0 where
  Unreadable : Reply
  Readable : (code : ℕ) (body : Bytes) (token : Option Bytes) (lets : ℕ → Bool) → Reply

-- What comes of a request: the reply, and the server's next state.
pub record Served (R : Type 0) : Type 0 where
  pub reply : Reply
  pub state : R

-- How many sites have numbers, and for each site: what its script does in a state when it is told something, its next state, and the state in which a page begins (none: the page can't be read).
pub record Scripts (S : Type 0) : Type 0 where
  pub sites : ℕ
  pub act : ℕ → S → Told → Act
  pub next : ℕ → S → Told → S
  pub begin : ℕ → Option Bytes → S

-- Scripts, and what a server does with a request in a state.
pub record Sites (S R : Type 0) : Type 0 where
  pub scripts : Scripts S
  pub serve : Request → R → Served R

-- What is read of an answer is within its limits.
use Rattle.std.proofs.Common.{◌≡◌, ℕ, ◌+◌, ◌-◌, ◌*◌, ◌≤◌, Bool, true, false, cond, ◌&&◌, eqb, ltb, leb, List, [], ◌∷◌, length, Some, None, codes, Option, sym, refl, subst, arith, eqb-true}
use Rattle.std.specs.List.{prefix_len}
use Rattle.std.proofs.lemmas.Bool.{leb-true}
use Rattle.octets.specs.declared.Class.TheVariants.{Digit}
use Rattle.octets.specs.Answers.{Answer, Read, Fault}
use Rattle.octets.specs.Classes.{has, is_digit}
use Rattle.octets.specs.Numbers.{number}
use Rattle.lines.specs.Heads.{read_then, fields}
use Rattle.lines.specs.Lines.{same_name, token_ok, token_fits}
use Rattle.lines.proofs.Kept.{refused, same_read, fields_keep}
use Rattle.answers.specs.declared.Kind.{Kind}
use Rattle.answers.specs.Answers.{limit, Allows, Known, unknown, length_from, length_field, token_field, allows_of, allowed_field, taking, status_then, Content, body_of, answer_from}
use Rattle.answers.specs.Within.{WithinLimits}

no_number : (n : ℕ) → None ≡ Some n → ⊥
no_number n e = let z : ◌≡◌ {A = ℕ} 0 1 = cc in omega arith

-- a number that is read is at most the bound
pub number_most : (most n m : ℕ) (ds : List ℕ) → n ≤ most → number most n ds ≡ Some m → m ≤ most
number_most most n m [] h e = let same : n ≡ m = cc in subst (λ z. z ≤ most) same h
number_most most n m (d ∷ ds) h e = go (λ l c. number_most most (n * 10 + (d - 48)) m ds l c) (is_digit d) (leb (n * 10 + (d - 48)) most) refl e
  where
    go : (n * 10 + (d - 48) ≤ most → number most (n * 10 + (d - 48)) ds ≡ Some m → m ≤ most) → (b c : Bool) → leb (n * 10 + (d - 48)) most ≡ c → cond (b && c) (number most (n * 10 + (d - 48)) ds) None ≡ Some m → m ≤ most
    go again true true f g = again (leb-true (n * 10 + (d - 48)) most f) g
    go again true false f g = absurd (no_number m g)
    go again false c f g = absurd (no_number m g)

-- a length, if there is one, is within the limit of its kind, and a token is one
pub record Good (kind : Kind) (f : Known) : Type 0 where
  pub kind_is : f.kind ≡ kind
  pub length_is : (n : ℕ) → f.length ≡ Some n → n ≤ limit kind
  pub token_is : token_fits f.token ≡ true

module _ (kind : Kind) where
  length_good : (f g : Known) (o : Option ℕ) → Good kind f → ((n : ℕ) → o ≡ Some n → n ≤ limit kind) → length_from f o ≡ Read g → Good kind g
  length_good f g None h m e = absurd (refused 6 g e)
  length_good f g (Some n) h m e = subst (Good kind) (same_read _ g e) (record { kind_is = h.kind_is; length_is = λ k d. m k d; token_is = h.token_is })

  token_good : (f g : Known) (v : List ℕ) (b : Bool) → token_ok v ≡ b → Good kind f → cond b (Read (record { kind = f.kind; length = f.length; token = Some v; allowed = f.allowed })) (Fault 7) ≡ Read g → Good kind g
  token_good f g v true t h e = subst (Good kind) (same_read _ g e) (record { kind_is = h.kind_is; length_is = h.length_is; token_is = t })
  token_good f g v false t h e = absurd (refused 7 g e)

  allowed_good : (f g : Known) (o : Option Allows) → Good kind f → allowed_field f o ≡ Read g → Good kind g
  allowed_good f g None h e = absurd (refused 7 g e)
  allowed_good f g (Some a) h e = subst (Good kind) (same_read _ g e) (record { kind_is = h.kind_is; length_is = h.length_is; token_is = h.token_is })

  digits_good : (f g : Known) (v : List ℕ) (b : Bool) → Good kind f → cond b (length_from f (number (limit f.kind) 0 v)) (Fault 7) ≡ Read g → Good kind g
  digits_good f g v true h e = length_good f g (number (limit f.kind) 0 v) h (λ n d. subst (λ z. n ≤ limit z) h.kind_is (number_most (limit f.kind) 0 n v (omega arith) d)) e
  digits_good f g v false h e = absurd (refused 7 g e)

  taking_good : (f g : Known) (name v : List ℕ) → Good kind f → taking f name v ≡ Read g → Good kind g
  taking_good f g name v h e = by (same_name name (codes "transfer-encoding")) (same_name name (codes "content-length")) (same_name name (codes "set-cookie")) (same_name name (codes "access-control-allow-origin")) e
    where
      by : (a b c d : Bool) → cond a (Fault 6) (cond b (length_field f v) (cond c (token_field f v) (cond d (allowed_field f (allows_of v)) (Read f)))) ≡ Read g → Good kind g
      by true b c d q = absurd (refused 6 g q)
      by false true c d q = digits_good f g v (ltb 0 (length v) && eqb (prefix_len (has Digit) v) (length v)) h q
      by false false true d q = token_good f g v (token_ok v) refl h q
      by false false false true q = allowed_good f g (allows_of v) h q
      by false false false false q = subst (Good kind) (same_read f g q) h

  body_good : (code : ℕ) (f : Known) (o : Option ℕ) (s : List ℕ) (a : Content) → Good kind f → ((n : ℕ) → o ≡ Some n → n ≤ limit kind) → body_of code f o s ≡ Read a → (length a.body ≤ limit kind) × (token_fits a.token ≡ true)
  body_good code f None s a h m e = absurd (refused 6 a e)
  body_good code f (Some n) s a h m e = go (eqb (length s) n) refl e
    where
      go : (b : Bool) → eqb (length s) n ≡ b → cond b (Read (record { code = code; token = f.token; allowed = f.allowed; body = s })) (Fault 6) ≡ Read a → (length a.body ≤ limit kind) × (token_fits a.token ≡ true)
      go true d q =
          let short : length s ≤ limit kind = subst (λ z. z ≤ limit kind) (sym (eqb-true (length s) n d)) (m n refl) in
          subst (λ z. (length z.body ≤ limit kind) × (token_fits z.token ≡ true)) (same_read _ a q) (short, h.token_is)
      go false d q = absurd (refused 6 a q)

  fields_good : (code : ℕ) (s : List ℕ) (r : Answer (Known × List ℕ)) (a : Content) → fields taking (unknown kind) s ≡ r → read_then r (λ h. body_of code h.0 h.0.length h.1) ≡ Read a → (length a.body ≤ limit kind) × (token_fits a.token ≡ true)
  fields_good code s (Fault n) a e q = absurd (refused n a q)
  fields_good code s (Read h) a e q =
      let first : Good kind (unknown kind) = record { kind_is = refl; length_is = λ n d. absurd (no_number n d); token_is = refl } in
      let good : Good kind h.0 = fields_keep taking (Good kind) taking_good (unknown kind) h.0 s h.1 first e in
      body_good code h.0 h.0.length h.1 a good good.length_is q

  answer_good : (o : Option (ℕ × List ℕ)) (a : Content) → answer_from kind o ≡ Read a → (length a.body ≤ limit kind) × (token_fits a.token ≡ true)
  answer_good None a e = absurd (refused 6 a e)
  answer_good (Some p) a e = fields_good p.0 p.1 (fields taking (unknown kind) p.1) a refl e

pub within_limits : WithinLimits
within_limits kind s a e = answer_good kind (status_then s) a e

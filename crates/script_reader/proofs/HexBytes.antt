-- The loop over the digits of bytes.
use Rattle.std.proofs.Common.{ℕ, ◌≡◌, ◌≤◌, List, [], ◌∷◌, ◌++◌, length, take, drop, Option, Some, None, refl, sym, ap, ◌∙◌, append_assoc, append-nil, arith}
use Rattle.script_reader.specs.Numbers.{◌>>=◌}
use Rattle.script_reader.specs.Bytes.{hex_pair, hex_bytes}

-- with those that were read before
abbrev pub with_front : List ℕ → Option (List ℕ) → Option (List ℕ)
with_front front None = None
with_front front (Some more) = Some (front ++ more)

pub front_none : (read : Option (List ℕ)) → with_front [] read ≡ read
front_none None = refl
front_none (Some more) = refl

step_by : (front : List ℕ) (byte : ℕ) (o : Option (List ℕ)) → with_front front (o >>= λ bytes. Some (byte ∷ bytes)) ≡ with_front (front ++ byte ∷ []) o
step_by front byte None = refl
step_by front byte (Some bytes) = ap (λ (l : List ℕ). Some l) (sym (append_assoc front (byte ∷ []) bytes))

-- one more byte
pub goes_on : (front rest : List ℕ) (byte : ℕ) (read : Option (List ℕ)) → 2 ≤ length rest → hex_pair (take 2 rest) ≡ Some byte → with_front front (hex_bytes rest) ≡ read → with_front (front ++ byte ∷ []) (hex_bytes (drop 2 rest)) ≡ read
goes_on front [] byte read l h inv = absurd (omega arith)
goes_on front (high ∷ []) byte read l h inv = absurd (omega arith)
goes_on front (high ∷ low ∷ more) byte read l h inv =
    sym (step_by front byte (hex_bytes more)) ∙ sym (ap (λ (o : Option ℕ). with_front front (o >>= λ b. hex_bytes more >>= λ bytes. Some (b ∷ bytes))) h) ∙ inv

-- no digits
pub no_byte : (front rest : List ℕ) (read : Option (List ℕ)) → 2 ≤ length rest → hex_pair (take 2 rest) ≡ None → with_front front (hex_bytes rest) ≡ read → read ≡ None
no_byte front [] read l h inv = absurd (omega arith)
no_byte front (high ∷ []) read l h inv = absurd (omega arith)
no_byte front (high ∷ low ∷ more) read l h inv = sym inv ∙ ap (λ (o : Option ℕ). with_front front (o >>= λ b. hex_bytes more >>= λ bytes. Some (b ∷ bytes))) h

-- the end
pub all_read : (front rest : List ℕ) (read : Option (List ℕ)) → rest ≡ [] → with_front front (hex_bytes rest) ≡ read → read ≡ Some front
all_read front rest read e inv = sym inv ∙ ap (λ (l : List ℕ). with_front front (hex_bytes l)) e ∙ ap (λ (l : List ℕ). Some l) (append-nil front)

pub one_left : (front rest : List ℕ) (read : Option (List ℕ)) → length rest ≡ 1 → with_front front (hex_bytes rest) ≡ read → read ≡ None
one_left front [] read e inv = absurd (cc)
one_left front (x ∷ []) read e inv = sym inv
one_left front (x ∷ y ∷ more) read e inv = absurd (omega arith)

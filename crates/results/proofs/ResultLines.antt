-- Laws of the result's lines: a frame's parts put one after the other, and what they need.
use Rattle.std.specs.Prelude.{Result, Err}
use Prim.Native.Nat.{ℕ, ◌+◌, ◌*◌, ◌/◌, ◌%◌, ◌≤◌, ◌<◌}
use mathlib.Core.Path.{◌≡◌}
use mathlib.Core.List.{List, [], ◌∷◌, ◌++◌}
use native.Mathlib.Omega.{arith}
use lib.ListN.{length, length-append}
use Rattle.frames.specs.Digits.{word_bytes, spell_line}
use Rattle.frames.specs.declared.Refusal.{Refusal}
use Rattle.frames.specs.Refusal.{at_column, no_room}
use Rattle.frames.specs.Put.{Put, Fed, LineWritten}
use Rattle.frames.proofs.Puts.{Stands, put_stands, stands_then, length_bytes}
use Rattle.frames.proofs.WrittenLines.{line_short, line_ends}
use Rattle.results.specs.Result.{refusal_bytes}
use Rattle.results.proofs.Lengths.{line_length}

-- A frame's digits stand in front of a row that has room for its line.
pub record Laid (bs out : List ℕ) (next : ℕ) (row : List ℕ) : Type 0 where
  pub fits : length (spell_line bs) ≤ length out
  pub stands : Stands bs 0 out next row

-- a row too short for a frame's line
pub short_line : (bs out : List ℕ) {f : Refusal} → f ≡ no_room → length out < 2 * length bs + 1 → LineWritten (spell_line bs) out (Err f) out
short_line bs out is h = line_short (spell_line bs) out is (omega (arith, line_length bs))

module _ {bs out : List ℕ} {next : ℕ} {row : List ℕ} (laid : Laid bs out next row) where
  pub laid_line : {r : Result ℕ Refusal} {after : List ℕ} → Fed next row r after → LineWritten (spell_line bs) out r after
  laid_line e = line_ends bs out next row laid.fits laid.stands _ _ e

-- The parts of a frame put one after the other.
module _ {out : List ℕ} where
  first : (bs : List ℕ) {next : ℕ} {row : List ℕ} → 2 * length bs < length out → Put bs 0 out next row → Laid bs out next row
  first bs h p =
      record {
        fits = omega (arith, line_length bs);
        stands = put_stands bs 0 out _ _ (omega (arith, length_bytes bs)) p;
      }

  then : (xs ys : List ℕ) {mid next : ℕ} {part row : List ℕ} → 2 * (length xs + length ys) < length out
      → Laid xs out mid part → Put ys mid part next row → Laid (xs ++ ys) out next row
  then xs ys h s p =
      record {
        fits = omega (arith, line_length (xs ++ ys), length-append xs ys);
        stands = stands_then xs ys 0 out _ _ _ _ (omega (arith, length_bytes (xs ++ ys), length-append xs ys)) s.stands p;
      }

  pub four_parts : (kind : ℕ) (xs ys zs : List ℕ) {n₁ n₂ n₃ n₄ : ℕ} {o₁ o₂ o₃ o₄ : List ℕ}
      → 2 + 2 * (length xs + length ys + length zs) < length out
      → Put (kind ∷ []) 0 out n₁ o₁ → Put xs n₁ o₁ n₂ o₂ → Put ys n₂ o₂ n₃ o₃ → Put zs n₃ o₃ n₄ o₄
      → Laid (kind ∷ xs ++ ys ++ zs) out n₄ o₄
  four_parts kind xs ys zs h p₁ p₂ p₃ p₄ =
      let q₁ = first (kind ∷ []) (omega arith) p₁ in
      let q₂ = then (kind ∷ []) xs (omega arith) q₁ p₂ in
      let q₃ = then (kind ∷ xs) ys (omega arith) q₂ p₃ in
      then (kind ∷ xs ++ ys) zs (omega (arith, length-append xs ys)) q₃ p₄

-- Two bytes hold what a number leaves by 65,536.
wraps : (n : ℕ) → (n % 65_536 / 256 % 256 ≡ n / 256 % 256) × (n % 65_536 % 256 ≡ n % 256)
wraps n = (omega arith, omega arith)

pub refusal_wraps : (f : Refusal) → refusal_bytes (at_column f.number (f.line % 65_536) (f.column % 65_536)) ≡ refusal_bytes f
unfolding refusal_bytes word_bytes
refusal_wraps f =
    let line = wraps f.line in
    let column = wraps f.column in
    rw (line.0, line.1, column.0, column.1)

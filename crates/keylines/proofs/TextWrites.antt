-- The lengths of lines, and what the loops that write them have written.
use Prim.Native.Nat.{ℕ, ◌+◌, ◌^◌, ◌≤◌, ◌<◌}
use mathlib.Core.Path.{◌≡◌, sym, ap, ◌∙◌}
use mathlib.Core.List.{List, [], ◌∷◌, ◌++◌, append_assoc, append-nil}
use native.Mathlib.Numerals.{add-one}
use native.Mathlib.Omega.{arith}
use lib.ListN.{length, get_or, take, length-append}
use lib.Seq.{take-suc}
use Rattle.charset.specs.Bytes.{ascii}
use Rattle.token.specs.Wrote.{Wrote}
use Rattle.writer.proofs.Writes.{wrote_more, wrote_as}
use Rattle.keylines.specs.Text.{decimal, key_line, entry_lines}
use Rattle.keylines.proofs.Decimal.{decimal_short}

pub line_length : (key : List ℕ) (n : ℕ) → length (key_line key n) ≡ length key + length (decimal n) + 1
unfolding key_line
line_length key n = omega (arith, length-append (key ++ decimal n) (10 ∷ []), length-append key (decimal n))

-- a number in at most k digits
pub line_short : (key : List ℕ) (k n : ℕ) → 0 < k → n < 10 ^ k → length (key_line key n) ≤ length key + k + 1
line_short key k n h l = omega (arith, line_length key n, decimal_short k n h l)

entries_last : (es : List ℕ) (e : ℕ) → entry_lines (es ++ (e ∷ [])) ≡ entry_lines es ++ key_line (ascii "entry=") e
unfolding entry_lines
entries_last [] e = append-nil (key_line (ascii "entry=") e)
entries_last (x ∷ es) e = rw (entries_last es e, append_assoc)

pub entry_short : (e : ℕ) → e < 65536 → length (key_line (ascii "entry=") e) ≤ 12
entry_short e h = line_short (ascii "entry=") 5 e (omega arith) (omega arith)

module _ {o p : List ℕ} {a r : ℕ} (es : List ℕ) (i : ℕ) (w : Wrote o p a r (entry_lines (take i es))) where
  pub entries_more : {q : List ℕ} {t : ℕ} → i < length es → Wrote p q r t (key_line (ascii "entry=") (get_or es i 0)) → Wrote o q a t (entry_lines (take (i + 1) es))
  entries_more h v = wrote_as (wrote_more w v) (sym (entries_last (take i es) (get_or es i 0)) ∙ ap entry_lines (rw add-one (sym (take-suc es i 0 h))))

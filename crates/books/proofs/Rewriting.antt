-- The rewritten dictionary reads as the same book.
use Prim.Native.Nat.{ℕ, zero, suc, ◌+◌, ◌-◌, ◌≤◌, ◌<◌}
use mathlib.Core.Path.{◌≡◌, refl, sym, ap, subst, ◌∙◌}
use mathlib.Core.List.{List, [], ◌∷◌, map}
use mathlib.Core.Bool.{Bool, true, false, true≢false}
use native.Mathlib.Omega.{arith}
use borrow.Author.Tests.{eqb-true, eqb-false}
use lib.Dec.{eqb}
use lib.ListN.{length, get_or, length-map}
use Rattle.format.specs.Format.{All}
use Rattle.charset.specs.declared.Charset.{Charset}
use Rattle.charset.specs.declared.Charset.TheVariants.{Fsw, Swu}
use Rattle.charset.specs.Bytes.{digit_of, marker_of}
use Rattle.grammar.specs.Sign.{Meaning, sign_text}
use Rattle.token.specs.Result.{Result, refusal, done, on_done}
use Rattle.reader.specs.Signs.{sign_of}
use Rattle.sign.specs.Transcription.{other_set, transcription}
use Rattle.sign.specs.OffsetLaws.{ReadAlike}
use Rattle.sign.proofs.OffsetLaws.{one_meaning, meant_alike}
use Rattle.sign.proofs.Transcriptions.{transcription_laws}
use Rattle.lines.specs.Lines.{lines, first_line, line_of, bytes_of}
use Rattle.lines.specs.LineLaws.{Plain}
use Rattle.lines.proofs.Laws.{line_laws}
use Rattle.narrowing.specs.Narrowing.{entries_from}
use Rattle.narrowing.proofs.Rising.{up_to_rising, all_readable}
use Rattle.entries.specs.Entries.{is_done}
use Rattle.books.specs.Book.{Book, Text, book_of, text_of, rewritten, other_text, readable_in, entries_in, Sound}
use Rattle.books.proofs.Plain.{sign_plain}

abbrev other_line : Charset → List ℕ → List ℕ
other_line set line = text_of (transcription set line)

lines_plain : (set : Charset) (ls : List (List ℕ)) → All Plain (map (other_line set) ls)
unfolding transcription first_line
lines_plain set [] = tt
lines_plain set (l ∷ ls) = (go (sign_of set l), lines_plain set ls)
  where
    go : (r : Result Meaning) → Plain (text_of (on_done (sign_text (other_set set)) r))
    go (refusal number place) = refl
    go (done m) = sign_plain (other_set set) m

-- no line at all reads alike in both sets, and so does a line that is read
none_sign : (set : Charset) → sign_of (other_set set) [] ≡ sign_of set []
unfolding sign_of digit_of marker_of
none_sign Fsw = refl
none_sign Swu = refl

line_sign : (set : Charset) (line : List ℕ) → is_done (sign_of set line) ≡ true → sign_of (other_set set) (other_line set line) ≡ sign_of set line
unfolding transcription
line_sign set line = go (sign_of set line) refl
  where
    go : (r : Result Meaning) → sign_of set line ≡ r → is_done r ≡ true → sign_of (other_set set) (other_line set line) ≡ r
    go (refusal number place) k h = absurd (true≢false (sym h))
    go (done m) k h =
        let e : transcription set line ≡ done (sign_text (other_set set) m) = ap (on_done (sign_text (other_set set))) k in
        let a = one_meaning (other_set set) (sign_text (other_set set) m) set line (transcription_laws.equal set line (sign_text (other_set set) m) e) in
        ap (λ r. sign_of (other_set set) (text_of r)) e ∙ a.1.0 ∙ sym a.1.1 ∙ k

lines_sign : (set : Charset) (ls : List (List ℕ)) → ((i : ℕ) → i < length ls → is_done (sign_of set (get_or ls i [])) ≡ true)
    → (i : ℕ) → sign_of (other_set set) (get_or (map (other_line set) ls) i []) ≡ sign_of set (get_or ls i [])
lines_sign set [] h i = none_sign set
lines_sign set (l ∷ ls) h zero = line_sign set l (h 0 (omega arith))
lines_sign set (l ∷ ls) h (suc i) = lines_sign set ls (λ j p. h (suc j) (omega arith)) i

-- what holds of all of 1 to n holds of each
all_at : (P : ℕ → Type 0) (k n e : ℕ) → All P (entries_from k n) → k ≤ e → e < k + n → P e
unfolding entries_from
all_at P k zero e a l h = absurd (omega arith)
all_at P k (suc n) e a l h = go (eqb k e) refl (λ m. all_at P (suc k) n e a.1 m (omega arith))
  where
    go : (t : Bool) → eqb k e ≡ t → (suc k ≤ e → P e) → P e
    go true q later = subst P (eqb-true k e q) a.0
    go false q later = let z : k ≡ e → ⊥ = eqb-false k e q in later (omega (arith, z))

pub is_read : (b : Book) → Sound b → (e : ℕ) → 0 < e → e ≤ b.count → readable_in b e ≡ true
is_read b s e l h =
    all_at (λ e. readable_in b e ≡ true) 1 b.count e
    (all_readable (readable_in b) 0 b.count (entries_in b) (up_to_rising b.count) s.good)
    (omega arith)
    (omega arith)

pub same_book : (t : Text) → Sound (book_of t) → book_of (other_text t) ≡ book_of t
unfolding rewritten line_of
same_book t s = λ i. record { ended = (line_laws.closed ls ∙ sym s.whole) i; count = (ap length back ∙ length-map (lines t.1) (other_line t.0)) i; sign = λ e. sign e i }
  where
    ls : List (List ℕ)
    ls = map (other_line t.0) (lines t.1)

    back : lines (bytes_of ls) ≡ ls
    back = line_laws.back ls (lines_plain t.0 (lines t.1))

    sign : (e : ℕ) → sign_of (other_set t.0) (get_or (lines (bytes_of ls)) (e - 1) []) ≡ sign_of t.0 (get_or (lines t.1) (e - 1) [])
    sign e =
        ap (λ l. sign_of (other_set t.0) (get_or l (e - 1) [])) back
        ∙ lines_sign t.0 (lines t.1) (λ i h. let z : suc i - 1 ≡ i = omega arith in rw z at (is_read (book_of t) s (suc i) (omega arith) h)) (e - 1)

-- and its lines read as signs equal in all but offsets
pub lines_alike : (t : Text) → Sound (book_of t) → (e : ℕ) → 0 < e → e ≤ (book_of t).count
    → ReadAlike (other_set t.0) (line_of (rewritten t.0 t.1) e) t.0 (line_of t.1 e)
lines_alike t s e l h = go (sign_of t.0 (line_of t.1 e)) refl (is_read (book_of t) s e l h)
  where
    go : (r : Result Meaning) → sign_of t.0 (line_of t.1 e) ≡ r → is_done r ≡ true → ReadAlike (other_set t.0) (line_of (rewritten t.0 t.1) e) t.0 (line_of t.1 e)
    go (refusal number place) k h = absurd (true≢false (sym h))
    go (done m) k h =
        meant_alike (other_set t.0) (line_of (rewritten t.0 t.1) e) t.0 (line_of t.1 e) m (ap (λ b. b.sign e) (same_book t s) ∙ k) k

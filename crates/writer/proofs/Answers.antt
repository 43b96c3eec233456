-- What a call that writes a text answers and leaves in the lent memory, in each of its cases.
use Prim.Native.Nat.{ℕ, ◌≤◌, ◌<◌}
use mathlib.Core.Path.{◌≡◌, refl, sym, ap, ◌∙◌}
use mathlib.Core.List.{List, ◌++◌}
use mathlib.Core.Bool.{Bool, true, false}
use lib.Dec.{ltb}
use borrow.Author.Tests.{ltb-false, lt-ltb, le-ltb}
use lib.ListN.{length, take, drop, length-append}
use lib.Seq.{take-append_seam, drop-append_seam}
use native.Mathlib.Omega.{arith}
use Rattle.format.specs.Format.{choose}
use Rattle.token.specs.Refusal.{room_short}
use Rattle.token.specs.Result.{Result, refusal, done, Written, written_as, written, output, left_text, Leaves, Unchanged}
use Rattle.token.proofs.Checks.{Counted}
use Rattle.token.specs.Wrote.{Wrote}
use Rattle.writer.proofs.Writes.{wrote_all}

-- the answer r and the memory p to a result x, of a call that was lent the memory o
abbrev pub Answers : (o : List ℕ) → Result (List ℕ) → Written → List ℕ → Type 0
Answers o x r p = record { answer : r ≡ written o x; memory : p ≡ output o x }

pub answers_refused : (o : List ℕ) {x : Result (List ℕ)} {number place : ℕ} → x ≡ refusal number place → Answers o x (record { number = number; place = place; length = 0 }) o
unfolding written output
answers_refused o e = record { answer = rw e; memory = rw e }

-- too little room for the text
pub answers_short : (o : List ℕ) {x : Result (List ℕ)} {text : List ℕ} {size : ℕ} → x ≡ done text → size ≡ length text → length o < size
    → Answers o x (record { number = room_short; place = size; length = 0 }) o
unfolding written output
answers_short o {text = text} e n h =
    let short = lt-ltb (length o) (length text) (omega arith) in
    record { answer = rw (e, short, n); memory = rw (e, short) }

-- the text written at the start
pub answers_done : {o p : List ℕ} {r : ℕ} {x : Result (List ℕ)} {text : List ℕ} → x ≡ done text → Wrote o p 0 r text → Answers o x (record { number = 0; place = 0; length = r }) p
unfolding written output
answers_done {o} {text = text} e w =
    let h = le-ltb (length o) (length text) (omega arith) in
    record { answer = rw (e, h, (wrote_all w).0); memory = rw (e, h) (wrote_all w).1 }

-- a call that has room for its text
pub leaves : (o : List ℕ) {x : Result (List ℕ)} {text : List ℕ} → x ≡ done text → length text ≤ length o → Leaves o x text
unfolding written output
leaves o {text = text} e l = let h = le-ltb (length o) (length text) l in record { answer = rw (e, h); memory = rw (e, h) }

-- lent the memory as a call left it, one that comes to the same text answers the same and changes no byte
pub left_again : (o : List ℕ) {x y : Result (List ℕ)} {text : List ℕ} → x ≡ done text → y ≡ done text → length text ≤ length o → Unchanged o x y
left_again o {x} {text = text} e f l =
    let first = leaves o e l in
    let room : length text ≤ length (output o x) = rw (first.memory, length-append text (drop (length text) o)) (omega arith) in
    let second = leaves (output o x) f room in
    record {
      answer = second.answer ∙ sym first.answer;
      memory = second.memory ∙ ap (λ m. text ++ drop (length text) m) first.memory ∙ ap (λ m. text ++ m) (drop-append_seam text (drop (length text) o)) ∙ sym first.memory;
    }

-- a call whose number is 0 had room for its text, and wrote it at the start
pub record Accepted (o : List ℕ) (x : Result (List ℕ)) : Type 0 where
  pub text : List ℕ
  pub is : x ≡ done text
  pub fits : length text ≤ length o
  pub front : left_text o x ≡ text

fitting : (o text : List ℕ) (short : Bool) → ltb (length o) (length text) ≡ short → (written_as (choose short (refusal room_short (length text)) (done text))).number ≡ 0 → length text ≤ length o
fitting o text true e z = absurd (omega (arith, z))
fitting o text false e z = ltb-false (length o) (length text) e

front_left : (o : List ℕ) {x : Result (List ℕ)} {text : List ℕ} → Leaves o x text → left_text o x ≡ text
front_left o {text = text} l = (λ i. take (l.answer i).length (l.memory i)) ∙ take-append_seam text (drop (length text) o)

pub accepted : (o : List ℕ) (x : Result (List ℕ)) → Counted x → (written o x).number ≡ 0 → Accepted o x
unfolding written
accepted o (refusal n p) c z = absurd (omega (arith, c n p refl, z))
accepted o (done text) c z =
    let fits = fitting o text (ltb (length o) (length text)) refl z in
    record { text = text; is = refl; fits = fits; front = front_left o (leaves o refl fits) }

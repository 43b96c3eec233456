-- Line k lies from its start to its byte 10, and line k + 1 starts after that.
use Prim.Native.Nat.{ℕ, zero, suc, ◌+◌, ◌-◌, ◌≤◌, ◌<◌}
use mathlib.Core.Path.{◌≡◌, refl, ap, ◌∙◌}
use mathlib.Core.List.{List, [], ◌∷◌, ◌++◌, append_assoc}
use mathlib.Core.Bool.{Bool, true, false}
use lib.Dec.{eqb}
use lib.ListN.{length, take, drop, length-append, length-drop}
use lib.Seq.{drop-drop, take-suc, get_or-drop}
use native.Mathlib.Omega.{arith}
use Rattle.lines.specs.Lines.{byte_before, lines, first_line, bytes_of, line_of, line_start}

-- A first line is there, and the others follow its byte 10.
pub record First (d : List ℕ) : Type 0 where
  pub within : length (first_line d) < length d
  pub split : lines d ≡ first_line d ∷ lines (drop (suc (length (first_line d))) d)
  pub part : take (length (first_line d)) d ≡ first_line d

first_before : (b : ℕ) (d : List ℕ) → 0 < length (byte_before false b (lines d)) → 0 < length (lines d)
first_before b d h = go (lines d) h
  where
    go : (ls : List (List ℕ)) → 0 < length (byte_before false b ls) → 0 < length ls
    go [] q = absurd (omega arith)
    go (l ∷ ls) q = omega arith

pub first_line_lem : (d : List ℕ) → 0 < length (lines d) → First d
unfolding lines first_line
first_line_lem [] h = absurd (omega arith)
first_line_lem (b ∷ d) h = go (eqb b 10) refl h (λ q. first_line_lem d q)
  where
    go : (t : Bool) → eqb b 10 ≡ t → 0 < length (byte_before t b (lines d)) → (0 < length (lines d) → First d) → First (b ∷ d)
    go true e q rest = record { within = rw e (omega arith); split = rw e; part = rw e }
    go false e q rest =
        let f = rest (first_before b d q) in
        record { within = rw e (omega (arith, f.within)); split = rw e (ap (byte_before false b) f.split); part = rw e (ap (λ (l : List ℕ). b ∷ l) f.part) }

-- the lines after the first j
from_start : (j : ℕ) (d : List ℕ) → j ≤ length (lines d) → lines (drop (length (bytes_of (take j (lines d)))) d) ≡ drop j (lines d)
unfolding bytes_of
from_start zero d h = refl
from_start (suc j) d h =
    let f = first_line_lem d (omega arith) in
    let rest : List ℕ = drop (suc (length (first_line d))) d in
    let tail : ℕ = length (bytes_of (take j (lines rest))) in
    let size : length (first_line d) + suc tail ≡ suc (length (first_line d)) + tail = omega arith in
    let more : j ≤ length (lines rest) = omega (arith, ap length f.split) in
    rw (f.split, length-append, size, ← drop-drop tail (suc (length (first_line d))) d) (from_start j rest more)

bytes_append : (ls ms : List (List ℕ)) → bytes_of (ls ++ ms) ≡ bytes_of ls ++ bytes_of ms
unfolding bytes_of
bytes_append [] ms = refl
bytes_append (l ∷ ls) ms = rw (bytes_append ls ms, append_assoc)

one_line : (l : List ℕ) → length (bytes_of (l ∷ [])) ≡ length l + 1
unfolding bytes_of
one_line l = length-append l (10 ∷ [])

pub start_first : (d : List ℕ) → 0 ≡ line_start d 1
unfolding line_start bytes_of
start_first d = refl

-- line k from its start a to its byte 10 at e
pub record Line (d : List ℕ) (k a e : ℕ) : Type 0 where
  pub low : a ≤ e
  pub high : e < length d
  pub part : take (e - a) (drop a d) ≡ line_of d k
  pub next : e + 1 ≡ line_start d (k + 1)

module _ (d : List ℕ) (k a : ℕ) (low : 1 ≤ k) (high : k ≤ length (lines d)) (start : a ≡ line_start d k) where
  lines_at : lines (drop a d) ≡ drop (k - 1) (lines d)
  unfolding line_start
  lines_at = rw start (from_start (k - 1) d (omega arith))

  first_at : First (drop a d)
  first_at = first_line_lem (drop a d) (omega (arith, ap length lines_at, length-drop (k - 1) (lines d)))

  pub start_within : a < length d
  start_within = omega (arith, first_at.within, length-drop a d)

  first_is : first_line (drop a d) ≡ line_of d k
  unfolding line_of
  first_is =
      let q : k - 1 + 0 ≡ k - 1 = omega arith in
      rw (← q, ← get_or-drop (k - 1) (lines d) 0 [], ← lines_at, first_at.split)

  start_next : line_start d (k + 1) ≡ a + length (line_of d k) + 1
  unfolding line_start line_of
  start_next =
      let q : k + 1 - 1 ≡ suc (k - 1) = omega arith in
      rw (q, take-suc (lines d) (k - 1) [] (omega arith), bytes_append, length-append, one_line) (omega arith)

  pub line_at : (e : ℕ) → e ≡ a + length (first_line (drop a d)) → Line d k a e
  line_at e h =
      let size : e - a ≡ length (first_line (drop a d)) = omega arith in
      let same : length (first_line (drop a d)) ≡ length (line_of d k) = ap length first_is in
      record {
        low = omega arith;
        high = omega (arith, first_at.within, length-drop a d);
        part = rw size (first_at.part ∙ first_is);
        next = omega (arith, start_next);
      }

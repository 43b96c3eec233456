-- The limits, and what is known of a sign that was read into arrays.
use Prim.Native.Nat.{ℕ, ◌≤◌, ◌<◌}
use mathlib.Core.List.{List}
use mathlib.Core.Path.{◌≡◌, refl, sym, ap, ◌∙◌}
use mathlib.Core.Bool.{Bool, true, false}
use mathlib.Core.Logic.Iff
use mathlib.Core.Logic.{◌↔◌}
use lib.Dec.{leb, lit<}
use lib.ListN.{length}
use native.Mathlib.Omega.{arith}
use borrow.Author.Tests.{leb-true, leb-false, le-leb, lt-leb, lt-ltb, le-ltb}
use Rattle.format.specs.Places.{fine}
use Rattle.charset.specs.declared.Charset.{Charset}
use Rattle.grammar.specs.Sign.{Meaning, read_sign}
use Rattle.token.specs.Refusal.{prefix_long, signbox_long}
use Rattle.token.specs.Result.{Result, refusal, done, and_then, check, of_outcome}
use Rattle.token.proofs.Checks.{refusal_done, check_done, and_then_done, Counted, done_counted, check_counted, and_then_counted, outcome_counted}
use Rattle.token.proofs.Exactly.{Never, done_never, check_never, check_passed, check_stopped}
use Rattle.token.proofs.Results.{on_done_refusal, outcome_done, same_done}
use Rattle.std.specs.Prelude.{Result as Answer, Ok, Err}
use Rattle.token.specs.declared.refusal.Refusal.{Refusal}
use Rattle.token.specs.Refusal.{number_of, place_of}
use Rattle.token.specs.Result.{outcome, on_done}
use Rattle.grammar.specs.declared.Head.{Head}
use Rattle.grammar.specs.declared.Symbols.{Symbols}
use Rattle.reader.specs.Signs.{within_limits, sign_of}
use Rattle.reader.specs.Inner.{head_of, symbols_of, HoldsSign, TextInto, ReadInto, limited}
use Rattle.reader.proofs.Counts.{was_refused, was_done}

-- the limits, of a sign that was read
limits_go : (m : Meaning) (p q : Bool) → leb (length m.prefix) 32 ≡ p → leb (length m.symbols) 64 ≡ q
    → outcome (limited (head_of m)) ≡ on_done head_of (check p prefix_long 0 (check q signbox_long 0 (done m)))
unfolding limited
limits_go m false q x y = rw (lt-ltb 32 (length m.prefix) (leb-false (length m.prefix) 32 x))
limits_go m true false x y = rw (le-ltb 32 (length m.prefix) (leb-true (length m.prefix) 32 x), lt-ltb 64 (length m.symbols) (leb-false (length m.symbols) 64 y))
limits_go m true true x y = rw (le-ltb 32 (length m.prefix) (leb-true (length m.prefix) 32 x), le-ltb 64 (length m.symbols) (leb-true (length m.symbols) 64 y))

holds_go : (m : Meaning) (symbols : Symbols) → symbols ≡ symbols_of m → (p q : Bool) → HoldsSign (check p prefix_long 0 (check q signbox_long 0 (done m))) symbols
holds_go m symbols h false q = tt
holds_go m symbols h true false = tt
holds_go m symbols h true true = h

module _ (set : Charset) (s : List ℕ) (r : Answer Head Refusal) (symbols : Symbols) (v : TextInto set s r symbols) where
  abbrev text_says : Result Meaning
  text_says = of_outcome (length s) (read_sign set s)

  read_as : (x : Result Meaning) (ret : Answer Head Refusal) → text_says ≡ x → outcome ret ≡ on_done head_of (and_then x within_limits)
      → HoldsSign (and_then x within_limits) symbols → ReadInto set s ret symbols
  unfolding sign_of
  read_as x ret e q h = record { is = rw e q; holds = rw e h }

  pub read_refused : (e : Refusal) → r ≡ Err e → ReadInto set s (Err e) symbols
  read_refused e q = read_as (refusal (number_of e) (place_of e)) (Err e) (was_refused head_of text_says r e v.is q) refl tt

  pub read_limited : (h : Head) (ret : Answer Head Refusal) → r ≡ Ok h → ret ≡ limited h → ReadInto set s ret symbols
  read_limited h ret q l =
      let d = was_done head_of text_says r h v.is q in
      let m = d.0 in
      let k : HoldsSign (done m) symbols = rw d.1.0 at v.holds in
      read_as (done m) ret d.1.0
      (ap outcome (l ∙ ap limited (sym d.1.1)) ∙ limits_go m (leb (length m.prefix) 32) (leb (length m.symbols) 64) refl refl)
      (holds_go m symbols k (leb (length m.prefix) 32) (leb (length m.symbols) 64))

-- THE LIMITS, EXACTLY

module _ (m : Meaning) where
  abbrev signbox_limit : Result Meaning
  signbox_limit = check (leb (length m.symbols) 64) signbox_long 0 (done m)

  pub within_inv : (k : Meaning) → within_limits m ≡ done k → (length m.prefix ≤ 32) × ((length m.symbols ≤ 64) × (m ≡ k))
  within_inv k e =
      let p = check_done (leb (length m.prefix) 32) prefix_long 0 signbox_limit e in
      let q = check_done (leb (length m.symbols) 64) signbox_long 0 (done m) p.1 in
      (leb-true (length m.prefix) 32 p.0, (leb-true (length m.symbols) 64 q.0, same_done q.1))

  pub within_done : length m.prefix ≤ 32 → length m.symbols ≤ 64 → within_limits m ≡ done m
  within_done p s = rw (le-leb (length m.prefix) 32 p, le-leb (length m.symbols) 64 s)

  pub within_counted : Counted (within_limits m)
  within_counted =
      check_counted (leb (length m.prefix) 32) prefix_long 0 signbox_limit (lit< tt)
      (check_counted (leb (length m.symbols) 64) signbox_long 0 (done m) (lit< tt) (done_counted m))

  signbox_never : (k : ℕ) → (signbox_long ≡ k → ⊥) → Never k signbox_limit
  signbox_never k h = check_never (leb (length m.symbols) 64) signbox_long k 0 (done m) h (done_never k m)

  -- 3 and 4 are the only numbers that they give
  pub within_never : (k : ℕ) → (prefix_long ≡ k → ⊥) → (signbox_long ≡ k → ⊥) → Never k (within_limits m)
  within_never k h₁ h₂ = check_never (leb (length m.prefix) 32) prefix_long k 0 signbox_limit h₁ (signbox_never k h₂)

  pub prefix_exceeds : (p : ℕ) → (within_limits m ≡ refusal prefix_long p) ↔ ((32 < length m.prefix) × (p ≡ 0))
  prefix_exceeds p =
      let n = length m.prefix in
      Iff.trans (check_stopped (leb n 32) prefix_long 0 p signbox_limit (signbox_never prefix_long (λ e. omega arith))) (Iff.and (leb-false n 32, lt-leb n 32) Iff.rfl)

  pub signbox_exceeds : (p : ℕ) → (within_limits m ≡ refusal signbox_long p) ↔ ((length m.prefix ≤ 32) × ((64 < length m.symbols) × (p ≡ 0)))
  signbox_exceeds p =
      let n = length m.prefix in
      let k = length m.symbols in
      Iff.trans (check_passed (leb n 32) prefix_long signbox_long 0 p signbox_limit (λ e. omega arith))
      (Iff.and (leb-true n 32, le-leb n 32)
      (Iff.trans (check_stopped (leb k 64) signbox_long 0 p (done m) (done_never signbox_long m)) (Iff.and (leb-false k 64, lt-leb k 64) Iff.rfl)))

-- a sign that is within the limits is what the text says
pub record Limited (set : Charset) (s : List ℕ) (m : Meaning) : Type 0 where
  pub says : read_sign set s ≡ fine m
  pub prefix : length m.prefix ≤ 32
  pub symbols : length m.symbols ≤ 64

pub sign_limited : (set : Charset) (s : List ℕ) (m : Meaning) → sign_of set s ≡ done m → Limited set s m
unfolding sign_of
sign_limited set s m e =
    let d = and_then_done (of_outcome (length s) (read_sign set s)) within_limits e in
    let k = d.0 in
    let w = within_inv k m d.1.1 in
    rw w.1.1 at (limited-as k (outcome_done (length s) (read_sign set s) k d.1.0) w.0 w.1.0)
  where
    limited-as : (k : Meaning) → read_sign set s ≡ fine k → length k.prefix ≤ 32 → length k.symbols ≤ 64 → Limited set s k
    limited-as k a b c = record { says = a; prefix = b; symbols = c }

pub limited_sign : (set : Charset) (s : List ℕ) (m : Meaning) → Limited set s m → sign_of set s ≡ done m
unfolding sign_of
limited_sign set s m l =
    ap (λ o. and_then (of_outcome (length s) o) within_limits) l.says ∙ within_done m l.prefix l.symbols

-- no refusal has the number 0
pub sign_counted : (set : Charset) (s : List ℕ) → Counted (sign_of set s)
unfolding sign_of
sign_counted set s =
    and_then_counted (of_outcome (length s) (read_sign set s)) within_limits (outcome_counted (length s) (read_sign set s)) within_counted

-- What is known of a reading into memory, by its answer.
pub data Known (set : Charset) (s : List ℕ) (r : Answer Head Refusal) (symbols : Symbols) : Type 0 where
  not_read : (e : Refusal) → r ≡ Err e → sign_of set s ≡ refusal (number_of e) (place_of e) → Known set s r symbols
  was_read : (m : Meaning) → r ≡ Ok (head_of m) → sign_of set s ≡ done m → symbols ≡ symbols_of m → Known set s r symbols

known_go : (set : Charset) (s : List ℕ) (r : Answer Head Refusal) (symbols : Symbols) (x : Result Meaning) → sign_of set s ≡ x → outcome r ≡ on_done head_of x
    → HoldsSign x symbols → Known set s r symbols
known_go set s (Ok h) symbols (refusal n p) e q k = refusal_done n p (sym q)
known_go set s (Ok h) symbols (done m) e q k = was_read m (let z : h ≡ head_of m = cc in ap Ok z) e k
known_go set s (Err d) symbols (refusal n p) e q k = not_read d refl (e ∙ on_done_refusal head_of (refusal n p) (number_of d) (place_of d) (sym q))
known_go set s (Err d) symbols (done m) e q k = refusal_done (number_of d) (place_of d) q

pub known : (set : Charset) (s : List ℕ) (r : Answer Head Refusal) (symbols : Symbols) → ReadInto set s r symbols → Known set s r symbols
known set s r symbols v = known_go set s r symbols (sign_of set s) refl v.is v.holds

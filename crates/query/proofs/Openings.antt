-- What follows the Q: one law for each return.
use Prim.Native.Nat.{ℕ, ◌≤◌}
use mathlib.Core.List.{List}
use mathlib.Core.Path.{◌≡◌, refl, sym, ap, ◌∙◌}
use mathlib.Core.Bool.{Bool, true, false, true≢false}
use mathlib.Core.Logic.{◌⊎◌, inl, inr}
use mathlib.Core.Option.{some}
use lib.Dec.{ltb}
use lib.ListN.{length, take, drop, length-drop}
use native.Mathlib.Omega.{arith}
use borrow.Author.Tests.{ltb-true}
use Rattle.format.specs.Format.{Answer, Format, value, other, wrong, short, choose, or_else}
use Rattle.format.specs.Located.{Located, found, wrong_at, short_here, locate, and_then, on_found}
use Rattle.format.proofs.At.{delimited_got, cut_reads, either_begun, either_passed}
use Rattle.format.proofs.Ends.{optional_there, optional_none, optional_open, optional_over}
use Rattle.format.proofs.Begun.{value_other}
use Rattle.charset.specs.Bytes.{byte_of, byte, after}
use Rattle.charset.proofs.Units.{byte_delimited, after_other}
use Rattle.charset.proofs.FixedByte.{after_at, after_begun, byte_wrong}
use Rattle.std.specs.Prelude.{Result as Answered, Ok, Err, is_ok}
use Rattle.token.specs.declared.refusal.Refusal.{Refusal}
use Rattle.token.specs.Token.{token_at}
use Rattle.querygrammar.specs.declared.Edition.{Edition}
use Rattle.querygrammar.specs.Spelling.{spelling}
use Rattle.querygrammar.specs.Query.{ListText, HeadText, prefix_lists, head, after_q, query}
use Rattle.querygrammar.specs.QueryLaws.{Text}
use Rattle.queryitem.proofs.Chains.{byte_there, FailsAs, token_fails}
use Rattle.querypart.proofs.Lists.{fails_on}
use Rattle.query.specs.Inner.{Asks, Opened, Prefixed}

-- THE Q

module _ (e : Edition) (s : List ℕ) (t : Answered ℕ Refusal) (told : t ≡ token_at (byte 81) s 0) where
  abbrev begins : Format (Text e)
  begins = query (spelling e)

  abbrev goes : Format (Text e)
  goes = after_q (spelling e)

  q_at : locate begins s 0 ≡ and_then (locate (byte 81) s 0) λ a i. locate goes s i
  q_at = after_at 81 goes s 0

  pub asks_it : (a : ℕ) → t ≡ Ok a → Asks e s
  asks_it a w =
      let l = byte_there 81 s 0 a t told w in
      record { is = q_at ∙ ap (λ l. and_then l λ a i. locate goes s i) l; room = (delimited_got 1 (byte 81) (byte_delimited 81) s 0 a 1 l).room }

  pub q_fails : (d : Refusal) → t ≡ Err d → FailsAs (length s) (locate begins s 0) d
  q_fails d w = rw q_at (fails_on (length s) (locate (byte 81) s 0) (λ a i. locate goes s i) d (token_fails (byte 81) s 0 t d told w))

-- WHAT FOLLOWS IT

within_go : (v : ℕ) (rest : List ℕ) (p q : Bool) → choose p other (choose q other (value v rest)) ≡ short → ⊥
within_go v rest true q e = let z : ◌≡◌ {A = ℕ} 0 1 = cc in omega arith
within_go v rest false true e = let z : ◌≡◌ {A = ℕ} 0 1 = cc in omega arith
within_go v rest false false e = let z : ◌≡◌ {A = ℕ} 0 1 = cc in omega arith

unit_go : (v : ℕ) (rest : List ℕ) (t p q : Bool) → choose t short (choose p other (choose q other (value v rest))) ≡ short → t ≡ true
unit_go v rest true p q e = refl
unit_go v rest false p q e = absurd (within_go v rest p q e)

-- a byte is cut only by the end of the text
byte_short : (b : ℕ) (s : List ℕ) (at : ℕ) → locate (byte b) s at ≡ short_here → length s ≤ at
byte_short b s at e =
    let v = byte_of (λ a. a) (take 1 (drop at s)) in
    let t : ltb (length (drop at s)) 1 ≡ true = unit_go v (drop 1 (drop at s)) (ltb (length (drop at s)) 1) (ltb v b) (ltb b v) (cut_reads (byte b) s at e) in
    omega (arith, ltb-true (length (drop at s)) 1 t, length-drop at s)

-- a byte that is not there: another stands in its place, or the text ends
pub byte_gone : (b : ℕ) (s : List ℕ) (at : ℕ) (t : Answered ℕ Refusal) (d : Refusal) → t ≡ token_at (byte b) s at → t ≡ Err d → ((byte b).read (drop at s) ≡ other) ⊎ (length s ≤ at)
byte_gone b s at t d e q = go (locate (byte b) s at) refl (token_fails (byte b) s at t d e q)
  where
    go : (l : Located ℕ) → locate (byte b) s at ≡ l → FailsAs (length s) l d → ((byte b).read (drop at s) ≡ other) ⊎ (length s ≤ at)
    go (found a i) x h = absurd h
    go (wrong_at p) x h = inl (byte_wrong b s at p x).1
    go short_here x h = inr (byte_short b s at x)

never_other : {A B : Type 0} (r : Answer B) → (r ≡ other → ⊥) → ◌≡◌ {A = Answer (A ⊎ B)} (or_else other r) other → ⊥
never_other (value b rest) n e = let z : ◌≡◌ {A = ℕ} 0 1 = cc in omega arith
never_other other n e = n refl
never_other (wrong rest) n e = let z : ◌≡◌ {A = ℕ} 0 1 = cc in omega arith
never_other short n e = let z : ◌≡◌ {A = ℕ} 0 1 = cc in omega arith

module _ (e : Edition) (s : List ℕ) (h : 1 ≤ length s) where
  abbrev opening : Format (HeadText (spelling e).Says)
  opening = head (spelling e)

  abbrev prefix_format : Format ((ListText (spelling e).Says × List (ListText (spelling e).Says)) × ℕ)
  prefix_format = prefix_lists (spelling e)

  opens_end : length s ≤ 1 → Opened e 0 s
  opens_end k = optional_over opening s 1 (omega arith) refl

  pub opens_t : (a : ℕ) (t : Answered ℕ Refusal) → t ≡ token_at (byte 84) s 1 → t ≡ Ok a → Opened e 1 s
  opens_t a t x q =
      let l = byte_there 84 s 1 a t x q in
      let g = delimited_got 1 (byte 84) (byte_delimited 84) s 1 a 2 l in (
        a,
        optional_there opening s 1 (inl a) 2
            (either_begun (byte 84) (after 65 prefix_format) s 1 (λ z. value_other (sym g.reads ∙ z)) ∙ ap (on_found inl) l),
        g.room,
      )

  module _ (no-t : (byte 84).read (drop 1 s) ≡ other) where
    a_opens : (a : ℕ) (u : Answered ℕ Refusal) → u ≡ token_at (byte 65) s 1 → u ≡ Ok a → Opened e 2 s
    a_opens a u f w =
        let l = byte_there 65 s 1 a u f w in
        let g = delimited_got 1 (byte 65) (byte_delimited 65) s 1 a 2 l in
        let n = after_begun 65 prefix_format (drop 1 s) a (drop 2 s) g.reads in (
          optional_open opening s 1 (let r = g.room in omega arith)
              (λ z. never_other ((after 65 prefix_format).read (drop 1 s)) n (sym (ap (λ r. or_else r ((after 65 prefix_format).read (drop 1 s))) no-t) ∙ z))
              ∙ ap (on_found some) (either_passed (byte 84) (after 65 prefix_format) s 1 no-t ∙ ap (on_found inr) (after_at 65 prefix_format s 1 ∙ ap (λ l. and_then l λ a i. locate prefix_format s i) l)),
          g.room,
        )

    bare_opens : (byte 65).read (drop 1 s) ≡ other → Opened e 0 s
    bare_opens n =
        let o = after_other 65 prefix_format (drop 1 s) n in
        optional_none opening s 1 h (ap (λ r. or_else r ((after 65 prefix_format).read (drop 1 s))) no-t ∙ ap (or_else other) o)

  module _ (t : Answered ℕ Refusal) (d : Refusal) (told : t ≡ token_at (byte 84) s 1) (q : t ≡ Err d) where
    pub opens_a : (a : ℕ) (u : Answered ℕ Refusal) → u ≡ token_at (byte 65) s 1 → u ≡ Ok a → Opened e 2 s
    opens_a a u f w = go (byte_gone 84 s 1 t d told q)
      where
        go : ((byte 84).read (drop 1 s) ≡ other) ⊎ (length s ≤ 1) → Opened e 2 s
        go (inl n) = a_opens n a u f w
        go (inr k) = absurd (let r = (delimited_got 1 (byte 65) (byte_delimited 65) s 1 a 2 (byte_there 65 s 1 a u f w)).room in omega arith)

    pub opens_bare : (u : Answered ℕ Refusal) (c : Refusal) → u ≡ token_at (byte 65) s 1 → u ≡ Err c → Opened e 0 s
    opens_bare u c f w = go (byte_gone 84 s 1 t d told q) (byte_gone 65 s 1 u c f w)
      where
        go : ((byte 84).read (drop 1 s) ≡ other) ⊎ (length s ≤ 1) → ((byte 65).read (drop 1 s) ≡ other) ⊎ (length s ≤ 1) → Opened e 0 s
        go (inl n) (inl m) = bare_opens n m
        go (inl n) (inr k) = opens_end k
        go (inr k) m = opens_end k

pub prefixed_it : (e : Edition) (s : List ℕ) → Asks e s → Opened e 2 s → Prefixed e s
prefixed_it e s asks k = record { asks = asks; opened = k }

-- by the test whether a byte is there
pub was_ok : {A : Type 0} (r : Answered A Refusal) → is_ok r ≡ true → (a : A) × (r ≡ Ok a)
was_ok (Ok a) t = (a, refl)
was_ok (Err d) t = absurd (true≢false (sym t))

pub was_err : {A : Type 0} (r : Answered A Refusal) → is_ok r ≡ false → (d : Refusal) × (r ≡ Err d)
was_err (Ok a) t = absurd (true≢false t)
was_err (Err d) t = (d, refl)

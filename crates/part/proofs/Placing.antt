-- Laws of a value with its coordinate read at an offset: one for each return of the functions that read it.
use Rattle.std.proofs.Common.{◌≡◌, ℕ, ◌+◌, List, length, sym, refl, ap, ◌∙◌}
use Rattle.format.specs.Format.{Format}
use Rattle.format.specs.Located.{Located, found, wrong_at, short_here, locate, and_then, on_found}
use Rattle.format.proofs.Delimited.{Fixed}
use Rattle.format.proofs.At.{fixed_got, taken, sequence_at}
use Rattle.charset.specs.declared.Charset.{Charset}
use Rattle.charset.specs.Tokens.{Tokens, tokens}
use Rattle.charset.proofs.Sets.{lawful}
use Rattle.grammar.specs.Sign.{point, placed}
use Rattle.part.specs.declared.reading.Placed.{Placed}
use Rattle.std.specs.Prelude.{Result as Answer, Ok, Err, Option, Some}
use Rattle.part.specs.Inner.{point_after, point_then, Sure, parts}
use Rattle.token.specs.declared.refusal.Refusal.{Refusal}
use Rattle.token.specs.declared.refusal.Refusal.TheVariants.{TextWrong, TextShort}
use Rattle.token.specs.Token.{told, token_at}
use Rattle.token.specs.Result.{on_done, of_located}
use Rattle.token.proofs.Told.{told_value, told_at}
use Rattle.part.specs.Placed.{of_placed, told_placed, placed_result, placed_at, PlacedResult}

pub placed_result_lem : PlacedResult
unfolding placed_at
placed_result_lem f s at = go (locate f s at)
  where
    go : (l : Located (ℕ × (ℕ × ℕ))) → placed_result (told_placed (length s) l) ≡ on_done (λ p. p.0) (of_located (length s) l)
    go (found v next) = refl
    go (wrong_at p) = refl
    go short_here = refl

-- the coordinate that follows a value
module _ (set : Charset) (s : List ℕ) (at v : ℕ) where
  abbrev t : Tokens
  t = tokens set

  abbrev size : ℕ
  size = length s

  abbrev after_number : ℕ → ℕ → Located (ℕ × ℕ)
  after_number x i = on_found (λ y. (x, y)) (locate t.second s i)

  abbrev with_value : Located (ℕ × ℕ) → Answer Placed Refusal
  with_value l = told_placed size (on_found {B = ℕ × (ℕ × ℕ)} (λ p. (v, p)) l)

  after_is : (l : Located ℕ) → locate t.number s at ≡ l → with_value (and_then l after_number) ≡ point_after set s at v
  unfolding point_after
  after_is l e =
      sym (ap with_value (sequence_at t.unit t.number (λ x. t.second) (lawful set).number.delimited s at ∙ ap (λ l. and_then l after_number) e))

  -- either number may be refused
  number_go : (l : Located ℕ) (e : Refusal) → told size l ≡ Err e → Err e ≡ with_value (and_then l after_number)
  number_go (found a i) e q = absurd (cc q)
  number_go (wrong_at p) e q = let k : e ≡ TextWrong p = cc in ap Err k
  number_go short_here e q = let k : e ≡ TextShort size = cc in ap Err k

  pub number_refused : (e : Refusal) → token_at t.number s at ≡ Err e → Err e ≡ point_after set s at v
  unfolding token_at
  number_refused e q = number_go (locate t.number s at) e q ∙ after_is (locate t.number s at) refl

  module _ (x n : ℕ) (e : token_at t.number s at ≡ Ok x) (k : n ≡ t.number_size) where
    second_is : (l : Located ℕ) → locate t.second s (at + n) ≡ l → with_value (on_found (λ y. (x, y)) l) ≡ point_after set s at v
    second_is l q =
        let there = told_at t.unit t.number_size t.number (lawful set).number s at x e in
        sym (ap (λ l. with_value (on_found (λ y. (x, y)) l)) q)
        ∙ after_is (found x (at + n)) (there.is ∙ ap (λ m. found x (at + m)) (sym k))

    second_go : (l : Located ℕ) (e : Refusal) → told size l ≡ Err e → Err e ≡ with_value (on_found (λ y. (x, y)) l)
    second_go (found a i) e q = absurd (cc q)
    second_go (wrong_at p) e q = let k : e ≡ TextWrong p = cc in ap Err k
    second_go short_here e q = let k : e ≡ TextShort size = cc in ap Err k

    pub second_refused : (e : Refusal) → token_at t.second s (at + n) ≡ Err e → Err e ≡ point_after set s at v
    unfolding token_at
    second_refused e q = second_go (locate t.second s (at + n)) e q ∙ second_is (locate t.second s (at + n)) refl

    pub both_found : (y : ℕ) → token_at t.second s (at + n) ≡ Ok y → Ok (record { value = v; x = x; y = y }) ≡ point_after set s at v
    unfolding token_at
    both_found y q =
        let l = told_value size (locate t.second s (at + n)) y q in
        second_is (found y l.next) l.is

-- a token that takes n bytes, and then its coordinate
module _ (set : Charset) (n : ℕ) (f : Format ℕ) (x : Fixed (tokens set).unit n f) (s : List ℕ) (at : ℕ) where
  then_go : (l : Located ℕ) → ((v next : ℕ) → l ≡ found v next → next ≡ at + n)
      → point_then set s (at + n) (told (length s) l) ≡ told_placed (length s) (and_then l λ v i. on_found (λ p. (v, p)) (locate (point (tokens set)) s i))
  unfolding point_then point_after
  then_go (found v i) k = ap (λ i. told_placed (length s) (on_found (λ p. (v, p)) (locate (point (tokens set)) s i))) (sym (k v i refl))
  then_go (wrong_at p) k = refl
  then_go short_here k = refl

  placed_then : (m : ℕ) (first : Answer ℕ Refusal) → m ≡ n → first ≡ token_at f s at
      → point_then set s (at + m) first ≡ placed_at (placed (tokens set) f) s at
  unfolding placed_at token_at
  placed_then m first k e =
      ap (λ i. point_then set s (at + i) first) k
      ∙ ap (point_then set s (at + n)) e
      ∙ then_go (locate f s at) (λ v next q. (fixed_got (tokens set).unit n f x s at v next q).0)
      ∙ ap (told_placed (length s)) (sym (sequence_at (tokens set).unit f (λ v. point (tokens set)) x.delimited s at))

  pub placed_after : (m v : ℕ) → m ≡ n → Ok v ≡ token_at f s at → point_after set s (at + m) v ≡ placed_at (placed (tokens set) f) s at
  unfolding point_then
  placed_after m v k e = placed_then m (Ok v) k e

  pub placed_refused : (r : Refusal) → Err r ≡ token_at f s at → Err r ≡ placed_at (placed (tokens set) f) s at
  unfolding point_then
  placed_refused r e = placed_then n (Err r) refl e

-- what a quick look finds
pub sure_placed : (w n : ℕ) (f : Format (ℕ × (ℕ × ℕ))) → Fixed w n f → (s : List ℕ) (at : ℕ) (r : Option Placed) (p : Placed) → Sure n f s at (parts r)
    → r ≡ Some p → Ok p ≡ placed_at f s at
unfolding placed_at
sure_placed w n f k s at r p sure e =
    let q = sure.is (of_placed p) (ap parts e) in
    sym (ap (told_placed (length s)) (taken w n f k s at (of_placed p) q.valid q.bytes))

pub sure_told : (w n : ℕ) (f : Format ℕ) → Fixed w n f → (s : List ℕ) (at : ℕ) (r : Option ℕ) (v : ℕ) → Sure n f s at r → r ≡ Some v → Ok v ≡ token_at f s at
unfolding token_at
sure_told w n f k s at r v sure e =
    let q = sure.is v e in
    sym (ap (told (length s)) (taken w n f k s at v q.valid q.bytes))

-- From the prefix and the signbox to the sign: one law for each return.
use Prim.Native.Nat.{ℕ, ◌≤◌}
use mathlib.Core.List.{List, map, map-id}
use mathlib.Core.Path.{◌≡◌, refl, sym, ap, ◌∙◌}
use lib.ListN.{length, length-map}
use native.Mathlib.Omega.{arith}
use Rattle.format.specs.Format.{optional}
use Rattle.format.specs.Located.{Located, found, wrong_at, short_here, locate, and_then as thenLocated, on_found}
use Rattle.format.proofs.Parts.{optional_lawful}
use Rattle.format.proofs.At.{got, mapped_at, sequence_at_got}
use Rattle.charset.specs.declared.Charset.{Charset}
use Rattle.charset.specs.Tokens.{Tokens, tokens}
use Rattle.charset.proofs.Sets.{lawful}
use Rattle.grammar.specs.Sign.{Meaning, Valid, prefix, signbox, parts, sign, to_spatial, to_prefix, to_meaning, of_meaning}
use Rattle.grammar.proofs.Sign.{prefix_lawful}
use Rattle.std.specs.Prelude.{Result as Answer, Ok, Err}
use Rattle.token.specs.declared.refusal.Refusal.{Refusal}
use Rattle.token.specs.Padded.{padded}
use Rattle.token.specs.Refusal.{text_wrong, text_short, number_of, place_of}
use Rattle.token.specs.Result.{Result, refusal, done, outcome, on_done, of_located, result_at}
use Rattle.token.proofs.Checks.{refusal_done}
use Rattle.token.proofs.Results.{on_result}
use Rattle.grammar.specs.declared.Head.{Head}
use Rattle.grammar.specs.declared.Symbols.{Symbols}
use Rattle.reader.specs.declared.arrays.Count.{Count}
use Rattle.reader.specs.Inner.{count_of, head_of, box_head, HoldsBox, HoldsSign, prefix_at, LeadingPrefix, SignboxIn, SignInto}
use Rattle.reader.proofs.Counts.{was_refused, Read, was_read}
use Rattle.reader.proofs.Prefixes.{Pre}
use Rattle.reader.proofs.Signboxes.{Box}

-- a signbox that was read after a prefix is a sign that was read
abbrev signed : Pre → Result (Box × ℕ) → Result (Meaning × ℕ)
signed p = on_done (λ b. (to_meaning (p, b.0), b.1))

said_go : (n : ℕ) (p : Pre) (x : Result (Box × ℕ)) → n ≡ length (to_prefix p) → on_done {B = Head × ℕ} (λ b. (box_head n b.0, b.1)) x ≡ on_done {B = Head × ℕ} (λ b. (head_of b.0, b.1)) (signed p x)
said_go n p (refusal number place) k = refl
said_go n p (done b) k =
    λ i. done (record { marker = b.0.0.0; max_x = b.0.0.1.0; max_y = b.0.0.1.1; prefix_count = k i; symbol_count = sym (length-map b.0.1 to_spatial) i }, b.1)

held_go : (p : Pre) (x : Result (Box × ℕ)) (symbols : Symbols) → symbols.prefix ≡ padded 32 (to_prefix p) → HoldsBox x symbols
    → HoldsSign (on_done (λ b. b.0) (signed p x)) symbols
held_go p (refusal number place) symbols a h = tt
held_go p (done b) symbols a h = λ i. record { prefix = a i; codes = h.codes i; xs = h.xs i; ys = h.ys i }

abbrev meant : Result ((Pre × Box) × ℕ) → Result (Meaning × ℕ)
meant = on_done (λ p. (to_meaning p.0, p.1))

meant_signed : (size : ℕ) (p : Pre) (l : Located Box) → meant (of_located size (on_found (λ b. (p, b)) l)) ≡ signed p (of_located size l)
meant_signed size p (found b i) = refl
meant_signed size p (wrong_at q) = refl
meant_signed size p short_here = refl

-- the prefix whose symbols were found
record There (l : Located Pre) (symbols : List ℕ) (place : ℕ) : Type 0 where
  pub pre : Pre
  pub is : l ≡ found pre place
  pub symbols_are : to_prefix pre ≡ symbols

there_go : (size : ℕ) (l : Located Pre) (symbols : List ℕ) (place : ℕ) → of_located size (on_found to_prefix l) ≡ done (symbols, place) → There l symbols place
there_go size (found p i) symbols place e = let q : ◌≡◌ {A = List ℕ × ℕ} (to_prefix p, i) (symbols, place) = cc in record { pre = p; is = λ j. found p (q j).1; symbols_are = λ j. (q j).0 }
there_go size (wrong_at q) symbols place e = refusal_done text_wrong q e
there_go size short_here symbols place e = refusal_done text_short size e

module _ (set : Charset) (s : List ℕ) where
  abbrev t : Tokens
  t = tokens set

  abbrev size : ℕ
  size = length s

  abbrev goes : Pre → ℕ → Located (Pre × Box)
  goes p i = on_found (λ b. (p, b)) (locate (signbox (tokens set)) s i)

  abbrev before : Located Pre
  before = locate (optional (prefix (tokens set))) s 0

  prefix_got : (p : Pre) (i : ℕ) → before ≡ found p i → i ≤ length s
  prefix_got p i e = (got t.unit (optional (prefix t)) (optional_lawful t.unit (prefix t) (prefix_lawful t (lawful set))) s 0 (omega arith) p i e).room

  sign_at : (l : Located Pre) → before ≡ l → result_at (sign set) s 0 ≡ meant (of_located size (thenLocated l goes))
  sign_at l e =
      ap (of_located size) (mapped_at (parts t) to_meaning of_meaning Valid s 0)
      ∙ on_result size to_meaning (locate (parts t) s 0)
      ∙ ap (λ l. meant (of_located size l)) (
      sequence_at_got (optional (prefix t)) (λ p. signbox t) s 0
      (got t.unit (optional (prefix t)) (optional_lawful t.unit (prefix t) (prefix_lawful t (lawful set))) s 0 (omega arith))
      ∙ ap (λ l. thenLocated l goes) e)

  sign_as : (x : Result (Meaning × ℕ)) (r : Answer (Head × ℕ) Refusal) (symbols : Symbols) → result_at (sign set) s 0 ≡ x
      → outcome r ≡ on_done (λ p. (head_of p.0, p.1)) x → HoldsSign (on_done (λ p. p.0) x) symbols → SignInto set s r symbols
  sign_as x r symbols e q h = record { is = rw e q; holds = rw e h }

  module _ (r : Answer Count Refusal) (array : List ℕ) (v : LeadingPrefix set s r array) where
    -- the prefix is refused
    refused_go : (l : Located Pre) (number place : ℕ) → of_located size (on_found to_prefix l) ≡ refusal number place
        → of_located size (thenLocated l goes) ≡ refusal number place
    refused_go (found p i) number place e = refusal_done number place (sym e)
    refused_go (wrong_at p) number place e = cc
    refused_go short_here number place e = cc

    pub sign_refused : (symbols : Symbols) (e : Refusal) → r ≡ Err e → SignInto set s (Err e) symbols
    sign_refused symbols e q =
        sign_as (refusal (number_of e) (place_of e)) (Err e) symbols
        (sign_at before refl ∙ ap meant (refused_go before (number_of e) (place_of e) (was_refused count_of (prefix_at set s) r e v.is q))) refl tt

    -- the prefix is read, or there is none
    module _ (c : Count) (q : r ≡ Ok c) where
      read : Read (prefix_at set s) c
      read = was_read (prefix_at set s) r c v.is q

      there : There before read.symbols c.end
      there = there_go size before read.symbols c.end read.is

      pub prefix_inside : c.end ≤ length s
      prefix_inside = prefix_got there.pre c.end there.is

      pub sign_read : (ret : Answer (Head × ℕ) Refusal) (old new : Symbols) → old.prefix ≡ array → SignboxIn set s c.end c.count ret old new → SignInto set s ret new
      sign_read ret old new o b =
          let a : array ≡ padded 32 (map (λ c. c) read.symbols) = rw read.is at v.holds in
          let n : c.count ≡ length (to_prefix there.pre) = read.count ∙ ap length (sym there.symbols_are) in
          let x : Result (Box × ℕ) = result_at (signbox t) s c.end in
          sign_as (signed there.pre x) ret new (sign_at (found there.pre c.end) there.is ∙ meant_signed size there.pre (locate (signbox t) s c.end))
          (b.is ∙ said_go c.count there.pre x n)
          (held_go there.pre x new (b.prefix ∙ o ∙ a ∙ ap (padded 32) (map-id read.symbols ∙ sym there.symbols_are)) b.holds)

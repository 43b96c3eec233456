-- Digits that may be open: one law for each return.
use Prim.Native.Nat.{ℕ, ◌+◌, ◌≤◌}
use mathlib.Core.List.{List}
use mathlib.Core.Path.{◌≡◌, refl, sym, ap, ◌∙◌}
use mathlib.Core.Logic.{◌⊎◌, inl, inr}
use lib.ListN.{length}
use Rattle.std.specs.Prelude.{Result as Answer, Ok, Err, Option as Optional, Some, None, IfSome}
use Rattle.format.specs.Located.{Located, found, wrong_at, short_here, locate, on_found}
use Rattle.format.proofs.At.{fixed_got, either_first, either_passed}
use Rattle.charset.specs.Bytes.{byte, digit}
use Rattle.charset.proofs.FixedByte.{digit_wrong}
use Rattle.token.specs.declared.refusal.Refusal.{Refusal}
use Rattle.token.specs.declared.refusal.Refusal.TheVariants.{TextWrong}
use Rattle.token.specs.Token.{told, token_at}
use Rattle.token.proofs.Told.{told_value}
use Rattle.querygrammar.specs.Spelling.{or_any, open_of}
use Rattle.querygrammar.proofs.Items.{any_delimited}
use Rattle.queryitem.specs.Numbers.{plain}
use Rattle.queryitem.specs.Pieces.{given, open_at}
use Rattle.queryitem.proofs.Chains.{byte_there, wrong_token, FailsAs, token_fails, told_fails, short_token}

module _ (top : ℕ) (s : List ℕ) (at : ℕ) where
  open_as : (l : Located (ℕ ⊎ ℕ)) → locate (or_any top) s at ≡ l → told (length s) (on_found given l) ≡ open_at top s at
  unfolding open_at
  open_as l e = ap (λ l. told (length s) (on_found given l)) (sym e)

  module _ (t : Answer ℕ Refusal) (e : t ≡ token_at (digit 0 top) s at) where
    pub open_digit : (d : ℕ) → t ≡ Ok d → Ok (Some d) ≡ open_at top s at
    unfolding token_at
    open_digit d v =
        let l = told_value (length s) (locate (digit 0 top) s at) d (sym e ∙ v) in
        open_as (found (inl d) l.next)
        (either_first (digit 0 top) (byte 117) s at (λ z. let y : found d l.next ≡ wrong_at at = sym l.is ∙ z in cc) ∙ ap (on_found inl) l.is)

    module _ (k : top ≤ 15) where
      pub open_short : (r : Refusal) → t ≡ Err r → (r ≡ TextWrong at → ⊥) → Err r ≡ open_at top s at
      open_short r q n =
          let l = short_token (digit 0 top) s at t r e q (λ p w. (digit_wrong top k s at p w).0) n in
          ap Err l.is ∙ open_as short_here
          (either_first (digit 0 top) (byte 117) s at (λ z. let y : ◌≡◌ {A = Located ℕ} short_here (wrong_at at) = sym l.located ∙ z in cc) ∙ ap (on_found inl) l.located)

      module _ (d : Refusal) (v : t ≡ Err d) (q : d ≡ TextWrong at) where
        open-letter : locate (or_any top) s at ≡ on_found inr (locate (byte 117) s at)
        open-letter = either_passed (digit 0 top) (byte 117) s at (digit_wrong top k s at at (wrong_token (digit 0 top) s at at t e (v ∙ ap Err q))).1

        letter_go : (r : Refusal) (l : Located ℕ) → FailsAs (length s) l r → Err r ≡ told (length s) (on_found given (on_found inr l))
        letter_go r (found v i) h = absurd h
        letter_go r (wrong_at p) h = ap Err h
        letter_go r short_here h = ap Err h

        pub open_fails : (u : Answer ℕ Refusal) (r : Refusal) → u ≡ token_at (byte 117) s at → u ≡ Err r → Err r ≡ open_at top s at
        open_fails u r z v = letter_go r (locate (byte 117) s at) (token_fails (byte 117) s at u r z v) ∙ open_as (on_found inr (locate (byte 117) s at)) open-letter

        pub open_any : (a : ℕ) (u : Answer ℕ Refusal) → u ≡ token_at (byte 117) s at → u ≡ Ok a → Ok None ≡ open_at top s at
        open_any a u z v = open_as (found (inr a) (at + 1)) (open-letter ∙ ap (on_found inr) (byte_there 117 s at a u z v))

  -- the refusal where it fails
  pub digit_fails : (t : Answer (Optional ℕ) Refusal) (r : Refusal) → t ≡ open_at top s at → t ≡ Err r → FailsAs (length s) (locate (or_any top) s at) r
  unfolding open_at
  digit_fails t r = told_fails given (length s) (locate (or_any top) s at) t r

  -- what is known of one that was told
  pub record Opened (v : Optional ℕ) : Type 0 where
    pub says : ℕ ⊎ ℕ
    pub is : locate (or_any top) s at ≡ found says (at + 1)
    pub means : plain v ≡ open_of says
    pub most : IfSome v (λ d. d ≤ top)

  size_go : (v : ℕ ⊎ ℕ) → length ((or_any top).write v) ≡ 1
  size_go (inl v) = refl
  size_go (inr v) = refl

  means_go : (says : ℕ ⊎ ℕ) → (or_any top).Valid says → (plain (given says) ≡ open_of says) × IfSome (given says) (λ d. d ≤ top)
  means_go (inl n) ok = (refl, ok.1)
  means_go (inr u) ok = (refl, tt)

  opened_go : top ≤ 15 → (v : Optional ℕ) (l : Located (ℕ ⊎ ℕ)) → locate (or_any top) s at ≡ l → told (length s) (on_found given l) ≡ Ok v → Opened v
  opened_go k v (found a i) e q =
      let g = fixed_got 1 1 (or_any top) (record { delimited = any_delimited top k; size = λ v ok. size_go v }) s at a i e in
      let m = means_go a g.1.valid in
      let w : given a ≡ v = cc in
      record { says = a; is = e ∙ ap (found a) g.0; means = rw w at m.0; most = rw w at m.1 }
  opened_go k v (wrong_at p) e q = absurd (cc q)
  opened_go k v short_here e q = absurd (cc q)

  pub opened : top ≤ 15 → (v : Optional ℕ) (t : Answer (Optional ℕ) Refusal) → t ≡ open_at top s at → t ≡ Ok v → Opened v
  unfolding open_at
  opened k v t e q = opened_go k v (locate (or_any top) s at) refl (sym e ∙ q)

-- What is located where a fixed byte stands, and where it does not.
use Prim.Native.Nat.{ℕ, ◌+◌, ◌≤◌, ◌<◌}
use mathlib.Core.List.{List, [], ◌∷◌}
use mathlib.Core.Path.{◌≡◌, refl, sym, ap, ◌∙◌}
use mathlib.Core.Bool.{Bool, true, false}
use mathlib.Core.Option.{none, some}
use lib.Dec.{ltb}
use lib.ListN.{length, drop, drop_of_length-le}
use lib.Seq.{drop-cons}
use native.Mathlib.Omega.{arith}
use borrow.Author.Tests.{ltb-true, ltb-false}
use Rattle.format.specs.Format.{value, other, Format, choose, optional}
use Rattle.format.specs.Located.{Located, found, wrong_at, short_here, locate, and_then, on_found}
use Rattle.format.proofs.At.{delimited_got}
use Rattle.format.proofs.Ends.{optional_open, optional_absent}
use Rattle.format.proofs.Begun.{value_other}
use Rattle.charset.specs.Bytes.{byte, after}
use Rattle.charset.proofs.Units.{byte_delimited}
use Rattle.charset.proofs.FixedByte.{Not, byte_absent, after_absent, after_at, after_begun}
use Rattle.std.specs.Prelude.{Ok}
use Rattle.token.specs.Token.{token_at}
use Rattle.token.proofs.Told.{Told, told_at, told_wrong, told_short}
use Rattle.token.proofs.Units.{byte_cut, byte_other, byte_within}
use Rattle.stylingreader.specs.Parts.{stands_at}
use Rattle.stylingreader.proofs.Marks.{Stands, stands_not}

-- the refusal where what has to stand is missing
abbrev pub missing_at : {A : Type 0} → List ℕ → ℕ → Located A
missing_at s at = choose (ltb at (length s)) (wrong_at at) short_here

-- a fixed byte, as a function reads it
pub byte_told : (b : ℕ) (s : List ℕ) (at v : ℕ) → token_at (byte b) s at ≡ Ok v → Told 1 (byte b) s at v
byte_told b = told_at 1 1 (byte b) (record { delimited = byte_delimited b; size = λ v ok. refl })

module _ (s : List ℕ) (at b : ℕ) where
  pub byte_there : Stands s at b → locate (byte b) s at ≡ found b (at + 1)
  byte_there q = (byte_told b s at b (sym (byte_within (λ a. a) (λ a. a ∷ []) b b s at b q.inside (sym q.is) (omega arith) (omega arith)))).is

  byte_missing_go : (t : Bool) → ltb at (length s) ≡ t → stands_at s at b ≡ false → locate (byte b) s at ≡ choose t (wrong_at at) short_here
  unfolding token_at
  byte_missing_go true e n =
      let h : at < length s = ltb-true at (length s) e in
      told_wrong (length s) (locate (byte b) s at) at (sym (byte_other b s at h λ z. stands_not s at b n (record { inside = h; is = z })))
  byte_missing_go false e n = told_short (length s) (length s) (locate (byte b) s at) (sym (byte_cut (λ a. a) (λ a. a ∷ []) b b s at (ltb-false at (length s) e)))

  byte_missing : stands_at s at b ≡ false → locate (byte b) s at ≡ missing_at s at
  byte_missing n = byte_missing_go (ltb at (length s)) refl n

  byte_reads : Stands s at b → (byte b).read (drop at s) ≡ value b (drop (at + 1) s)
  byte_reads q = (delimited_got 1 (byte b) (byte_delimited b) s at b (at + 1) (byte_there q)).reads

  not_there : at ≤ length s → stands_at s at b ≡ false → Not b (drop at s)
  not_there h n = go (ltb at (length s)) refl
    where
      go : (t : Bool) → ltb at (length s) ≡ t → Not b (drop at s)
      go true e =
          let k : at < length s = ltb-true at (length s) e in
          rw (drop-cons s at 0 k) (λ z. stands_not s at b n (record { inside = k; is = z }))
      go false e =
          let k : length s ≤ at = ltb-false at (length s) e in
          let z : drop at s ≡ [] = drop_of_length-le s k in
          rw z tt

-- A fixed byte, and then a format.
module _ {A : Type 0} (b : ℕ) (f : Format A) (s : List ℕ) (at : ℕ) where
  pub after_there : Stands s at b → locate (after b f) s at ≡ locate f s (at + 1)
  after_there q = after_at b f s at ∙ ap (λ l. and_then l λ a i. locate f s i) (byte_there s at b q)

  pub after_missing : stands_at s at b ≡ false → locate (after b f) s at ≡ missing_at s at
  after_missing n = after_at b f s at ∙ ap (λ l. and_then l λ a i. locate f s i) (byte_missing s at b n) ∙ go (ltb at (length s))
    where
      go : (t : Bool) → and_then {A = ℕ} (choose t (wrong_at at) short_here) (λ a i. locate f s i) ≡ choose t (wrong_at at) short_here
      go true = refl
      go false = refl

pub begun_there : {A : Type 0} (b : ℕ) (f : Format A) (s : List ℕ) (at : ℕ) → Stands s at b → (after b f).read (drop at s) ≡ other → ⊥
begun_there b f s at q = after_begun b f (drop at s) b (drop (at + 1) s) (byte_reads s at b q)

-- A part that may be absent.
module _ (b : ℕ) (s : List ℕ) (at : ℕ) where
  module _ {A : Type 0} (f : Format A) where
    pub maybe_there : Stands s at b → locate (optional (after b f)) s at ≡ on_found some (locate f s (at + 1))
    maybe_there q = optional_open (after b f) s at q.inside (begun_there b f s at q) ∙ ap (on_found some) (after_there b f s at q)

    pub maybe_absent : at ≤ length s → stands_at s at b ≡ false → locate (optional (after b f)) s at ≡ found none at
    maybe_absent h n = optional_absent (after b f) s at h (after_absent b f (drop at s) (not_there s at b h n))

  -- the byte alone
  pub maybe_byte : Stands s at b → locate (optional (byte b)) s at ≡ found (some b) (at + 1)
  maybe_byte q = optional_open (byte b) s at q.inside (λ o. value_other (sym (byte_reads s at b q) ∙ o)) ∙ ap (on_found some) (byte_there s at b q)

  pub no_byte : at ≤ length s → stands_at s at b ≡ false → locate (optional (byte b)) s at ≡ found none at
  no_byte h n = optional_absent (byte b) s at h (byte_absent b (drop at s) (not_there s at b h n))

-- How many bytes a sign takes.
use Prim.Native.Nat.{ℕ, zero, suc, ◌+◌, ◌*◌, ◌≤◌}
use mathlib.Core.List.{List, [], ◌∷◌, ◌++◌, map}
use mathlib.Core.Path.{◌≡◌, refl, ap, ◌∙◌}
use lib.ListN.{length, replicate, length-append, length-map}
use native.Mathlib.Omega.{arith}
use native.Mathlib.Nat.{suc-mul}
use Rattle.format.specs.Format.{Format, All, many, optional}
use Rattle.format.specs.Numeral.{Range}
use Rattle.format.proofs.Delimited.{Fixed}
use Rattle.charset.specs.declared.Charset.{Charset}
use Rattle.charset.specs.declared.Charset.TheVariants.{Fsw, Swu}
use Rattle.charset.specs.Tokens.{Tokens, tokens, last_location, last_code}
use Rattle.charset.proofs.Sets.{lawful}
use Rattle.grammar.specs.Sign.{Meaning, ValidSymbol, Valid, prefix_symbol, prefix, lead, spatial, of_spatial, of_prefix, sign_text}
use Rattle.grammar.specs.Size.{lead_size, spatial_size, prefix_size, sign_size}
use Rattle.grammar.specs.SignLaws.{longest, Longest}
use Rattle.grammar.proofs.Sign.{symbol_fixed, lead_fixed, spatial_fixed, sound, alike}

many_size : {A : Type 0} (w n : ℕ) (f : Format A) → Fixed w n f → (l : List A) → All f.Valid l → length ((many f).write l) ≡ length l * n
many_size w n f x [] ok = omega arith
many_size w n f x (a ∷ l) ok =
    length-append (f.write a) ((many f).write l)
    ∙ (λ i. x.size a ok.0 i + many_size w n f x l ok.1 i)
    ∙ (let e = suc-mul (length l) n in omega arith)

module _ (set : Charset) where
  abbrev t : Tokens
  t = tokens set

  pub prefix_size_lem : (l : List ℕ) → (optional (prefix t)).Valid (of_prefix l) → length ((optional (prefix t)).write (of_prefix l)) ≡ prefix_size set (length l)
  prefix_size_lem [] ok = refl
  prefix_size_lem (a ∷ l) ok =
      let x = symbol_fixed t (lawful set) in
      let m = (t.marker 0 0).write 0 in
      let s = (prefix_symbol t).write a in
      let r = (many (prefix_symbol t)).write l in
      let p : length m ≡ t.marker_size = ((lawful set).marker 0 0 (omega arith) (omega arith)).size 0 ok.0 in
      let q : length s ≡ t.symbol_size = x.size a ok.1.0 in
      let u : length r ≡ length l * t.symbol_size = many_size t.unit t.symbol_size (prefix_symbol t) x l ok.1.1 in
      let e : length (m ++ (s ++ r)) ≡ length m + length (s ++ r) = length-append m (s ++ r) in
      let f : length (s ++ r) ≡ length s + length r = length-append s r in
      omega (arith, suc-mul (length l) t.symbol_size)

  -- the size of a sign depends on its counts alone
  pub sign_size_lem : (m : Meaning) → Valid m → length (sign_text set m) ≡ sign_size set (length m.prefix) (length m.symbols)
  sign_size_lem m ok =
      let k = sound (tokens set) (alike set) m ok in
      let p = (optional (prefix t)).write (of_prefix m.prefix) in
      let h = (lead t).write (m.marker, (m.x, m.y)) in
      let s = (many (spatial t)).write (map of_spatial m.symbols) in
      let e : length (p ++ (h ++ s)) ≡ length p + length (h ++ s) = length-append p (h ++ s) in
      let f : length (h ++ s) ≡ length h + length s = length-append h s in
      let a : length p ≡ prefix_size set (length m.prefix) = prefix_size_lem m.prefix k.0 in
      let b : length h ≡ lead_size set = (lead_fixed t (lawful set)).size (m.marker, (m.x, m.y)) k.1.0 in
      let c : length s ≡ length m.symbols * spatial_size set =
      many_size t.unit (spatial_size set) (spatial t) (spatial_fixed t (lawful set)) (map of_spatial m.symbols) k.1.1
      ∙ ap (λ n. n * spatial_size set) (length-map m.symbols of_spatial) in
      omega arith

all_replicate : {A : Type 0} (P : A → Type 0) (a : A) → P a → (n : ℕ) → All P (replicate n a)
all_replicate P a ok zero = tt
all_replicate P a ok (suc n) = (ok, all_replicate P a ok n)

-- 32 prefix symbols and 64 signbox symbols
abbrev full : Meaning
full = record { prefix = replicate 32 1; marker = 1; x = 250; y = 250; symbols = replicate 64 (record { code = 1; x = 250; y = 250 }) }

full_valid : Valid full
full_valid = record {
  prefix = all_replicate (Range 0 (last_code last_location)) 1 (omega arith, omega arith) 32;
  marker = (omega arith, omega arith);
  maximum = ((omega arith, omega arith), (omega arith, omega arith));
  symbols = all_replicate ValidSymbol (record { code = 1; x = 250; y = 250 }) ((omega arith, omega arith), ((omega arith, omega arith), (omega arith, omega arith))) 64;
}

pub size_most : (set : Charset) (p n : ℕ) → p ≤ 32 → n ≤ 64 → sign_size set p n ≤ longest set
size_most Fsw zero n h k = omega arith
size_most Fsw (suc p) n h k = omega arith
size_most Swu zero n h k = omega arith
size_most Swu (suc p) n h k = omega arith

size_full : (set : Charset) → sign_size set 32 64 ≡ longest set
size_full Fsw = refl
size_full Swu = refl

pub longest_sign : (set : Charset) → Longest set
longest_sign set = record {
  most = λ m ok h k. rw (sign_size_lem set m ok) (size_most set (length m.prefix) (length m.symbols) h k);
  sign = full;
  valid = full_valid;
  prefix = refl;
  symbols = refl;
  size = sign_size_lem set full full_valid ∙ size_full set;
}

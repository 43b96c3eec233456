-- The parts of a sign as they are written: their sizes, and how they make up its text.
use Prim.Native.Nat.{ℕ, zero, suc, ◌+◌, ◌*◌, ◌≤◌, ◌<◌}
use mathlib.Core.Path.{◌≡◌, refl, sym, ap, ◌∙◌}
use mathlib.Core.List.{List, [], ◌∷◌, ◌++◌, append-nil}
use native.Mathlib.Omega.{arith}
use lib.ListN.{length, length-append, take}
use lib.Seq.{length-take-le}
use Rattle.format.specs.Format.{many}
use Rattle.charset.specs.declared.Charset.{Charset}
use Rattle.charset.specs.declared.Charset.TheVariants.{Fsw, Swu}
use Rattle.charset.specs.Tokens.{tokens, last_writing, last_location}
use Rattle.charset.proofs.Texts.{marker_text, null_or_symbol_text, symbol_text_lem}
use Rattle.grammar.specs.Sign.{Spatial, Meaning, Valid, point, prefix_symbol, spatial, of_spatial, sign_text}
use Rattle.grammar.specs.Size.{spatial_size, prefix_size, sign_size}
use Rattle.grammar.proofs.SignSize.{sign_size_lem}
use Rattle.token.specs.Symbol.{any_symbol}
use Rattle.token.specs.Wrote.{Wrote}
use Rattle.writer.proofs.Writes.{wrote_more, wrote_as}
use Rattle.writer.specs.Arrays.{upto, prefix_text, symbols_text}
use Rattle.writer.proofs.Upto.{list_size, map_upto}

-- The bytes of each part.
pub number_size_lem : (set : Charset) (n : ℕ) → length ((tokens set).number.write n) ≡ (tokens set).number_size
number_size_lem Fsw n = refl
number_size_lem Swu n = refl

pub marker_size_lem : (set : Charset) (m : ℕ) → length (((tokens set).marker 0 4).write m) ≡ (tokens set).marker_size
marker_size_lem Fsw m = refl
marker_size_lem Swu m = refl

pub point_size : (set : Charset) (x y : ℕ) → length ((point (tokens set)).write (x, y)) ≡ (tokens set).number_size + (tokens set).second_size
point_size Fsw x y = refl
point_size Swu x y = refl

pub prefix_symbol_size : (set : Charset) (code : ℕ) → length ((prefix_symbol (tokens set)).write code) ≡ (tokens set).symbol_size
prefix_symbol_size Fsw zero = refl
prefix_symbol_size Fsw (suc n) = refl
prefix_symbol_size Swu code = refl

pub spatial_size_lem : (set : Charset) (s : ℕ × (ℕ × ℕ)) → length ((spatial (tokens set)).write s) ≡ spatial_size set
spatial_size_lem Fsw s = refl
spatial_size_lem Swu s = refl

pub prefix_size_some : (set : Charset) (n : ℕ) → 0 < n → prefix_size set n ≡ (tokens set).marker_size + n * (tokens set).symbol_size
prefix_size_some set zero h = absurd (omega arith)
prefix_size_some set (suc n) h = refl

-- A token, or several, written as the part of a sign that they are.
pub symbol_put : (set : Charset) (code : ℕ) {o p : List ℕ} {a r : ℕ} → Wrote o p a r ((any_symbol set).write code) → Wrote o p a r ((many (prefix_symbol (tokens set))).write (code ∷ []))
symbol_put set code w = wrote_as w (null_or_symbol_text set last_location code ∙ sym (append-nil ((prefix_symbol (tokens set)).write code)))

pub spatial_put : (set : Charset) (code x y : ℕ) {o p q : List ℕ} {a r t : ℕ} → 1 ≤ code → Wrote o p a r ((any_symbol set).write code)
    → Wrote p q r t ((point (tokens set)).write (x, y)) → Wrote o q a t (symbols_text set (record { code = code; x = x; y = y } ∷ []))
spatial_put set code x y h w v =
    wrote_as (wrote_more (wrote_as w (symbol_text_lem set last_writing code h)) v) (sym (append-nil ((spatial (tokens set)).write (code, (x, y)))))

prefix_text_lem : (set : Charset) (l : List ℕ) → 0 < length l → ((tokens set).marker 0 4).write 0 ++ (many (prefix_symbol (tokens set))).write l ≡ prefix_text set l
prefix_text_lem set [] h = absurd (omega arith)
prefix_text_lem set (a ∷ l) h = ap (λ t. t ++ (many (prefix_symbol (tokens set))).write (a ∷ l)) (marker_text set 0 0 0)

pub prefix_put_some : (set : Charset) (l : List ℕ) {o p q : List ℕ} {a r t : ℕ} → 0 < length l
    → Wrote o p a r (((tokens set).marker 0 4).write 0) → Wrote p q r t ((many (prefix_symbol (tokens set))).write l) → Wrote o q a t (prefix_text set l)
prefix_put_some set l h w v = wrote_as (wrote_more w v) (prefix_text_lem set l h)

pub symbols_text_lem : (set : Charset) (g : ℕ → Spatial) (n : ℕ) → (many (spatial (tokens set))).write (upto (λ i. of_spatial (g i)) n) ≡ symbols_text set (upto g n)
symbols_text_lem set g n = ap (many (spatial (tokens set))).write (sym (map_upto of_spatial g n))

pub sign_put : (set : Charset) (m : Meaning) {o p q s u : List ℕ} {a b c d e : ℕ} → Wrote o p a b (prefix_text set m.prefix)
    → Wrote p q b c (((tokens set).marker 0 4).write m.marker) → Wrote q s c d ((point (tokens set)).write (m.x, m.y))
    → Wrote s u d e (symbols_text set m.symbols) → Wrote o u a e (sign_text set m)
sign_put set m w v x y = wrote_more w (wrote_more (wrote_more (wrote_as v (marker_text set 1 4 m.marker)) x) y)

-- The sizes of the parts by their counts.
pub prefix_size_lem : (set : Charset) (l : List ℕ) → length (prefix_text set l) ≡ prefix_size set (length l)
prefix_size_lem set [] = refl
prefix_size_lem set (a ∷ l) =
    let m = ((tokens set).marker 0 4).write 0 in
    let s = (many (prefix_symbol (tokens set))).write (a ∷ l) in
    sym (ap length (prefix_text_lem set (a ∷ l) (omega arith)))
    ∙ length-append m s
    ∙ λ i. marker_size_lem set 0 i + list_size (prefix_symbol (tokens set)) (prefix_symbol_size set) (a ∷ l) i

pub prefix_length : (set : Charset) (l : List ℕ) (n : ℕ) → n ≤ length l → length (prefix_text set (take n l)) ≡ prefix_size set n
prefix_length set l n h = prefix_size_lem set (take n l) ∙ ap (prefix_size set) (length-take-le n l h)

pub sign_length : (set : Charset) {m : Meaning} {p n : ℕ} → Valid m → length m.prefix ≡ p → length m.symbols ≡ n → sign_size set p n ≡ length (sign_text set m)
sign_length set {m} ok e f = sym (sign_size_lem set m ok ∙ λ i. sign_size set (e i) (f i))

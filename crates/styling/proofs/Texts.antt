-- Reading a styled text into memory: one law for each return.
use Prim.Native.Nat.{ℕ, suc, ◌≤◌, ◌<◌}
use mathlib.Core.List.{List, ◌∷◌, ◌++◌}
use mathlib.Core.Path.{◌≡◌, refl, sym, ap, ◌∙◌}
use mathlib.Core.Bool.{Bool, true, false}
use lib.Dec.{leb}
use lib.ListN.{length, get_or, take, drop}
use lib.Seq.{drop-cons}
use native.Mathlib.Omega.{arith}
use borrow.Author.Tests.{lt-ltb, le-ltb}
use Rattle.std.specs.Prelude.{Result as Answer, Ok, Err}
use Rattle.format.specs.Format.{choose}
use Rattle.format.specs.Places.{Outcome, fine, refused, ends_short, reading}
use Rattle.format.specs.Located.{found, locate}
use Rattle.format.proofs.At.{Got, got}
use Rattle.charset.specs.declared.Charset.{Charset}
use Rattle.charset.specs.Tokens.{tokens}
use Rattle.grammar.specs.declared.Head.{Head}
use Rattle.grammar.specs.declared.Symbols.{Symbols}
use Rattle.grammar.specs.Sign.{Meaning, sign, sign_text, read_sign}
use Rattle.grammar.proofs.Sign.{sign_lawful}
use Rattle.grammar.proofs.SignLaws.{sign_fine}
use Rattle.token.specs.declared.refusal.Refusal.{Refusal}
use Rattle.token.specs.Refusal.{number_of, place_of, prefix_long, signbox_long, zoom_outside, colour_long, styles_long}
use Rattle.token.specs.Result.{refusal, done, outcome, on_done, check, and_then, of_outcome, result_at}
use Rattle.token.proofs.Checks.{refusal_done}
use Rattle.token.proofs.Results.{outcome_done, located_done}
use Rattle.reader.specs.Inner.{head_of, symbols_of, HoldsSign, SignInto, TextInto}
use Rattle.reader.proofs.Counts.{was_done}
use Rattle.stylinggrammar.specs.Styling.{Spelling, styling}
use Rattle.stylinggrammar.specs.Meaning.{zooms_good, names_good, styles_few}
use Rattle.stylinggrammar.specs.Styled.{dash_at, undashed, dashed, split, read_both, read_styled}
use Rattle.stylinggrammar.specs.StyledLaws.{Dashed}
use Rattle.stylinggrammar.proofs.Dashes.{dash_of, reads_dashed}
use Rattle.stylinggrammar.proofs.StyledLaws.{sign_plain}
use Rattle.styling.specs.Reading.{styled_limits, styled_of}
use Rattle.styling.specs.Inner.{StyledInto, Undashed, StylingAfter}
use Rattle.styling.proofs.Judging.{refusal_as}

-- what stands at an offset is the styling of the sign before it
module _ (set : Charset) (s : List ℕ) (at : ℕ) (m : Meaning) (h : Head) (symbols : Symbols) (dash : dash_at s ≡ at) (head : h ≡ head_of m) (holds : symbols ≡ symbols_of m) where
  limits_go : (t : Spelling) (z n w p q : Bool)
      → HoldsSign (on_done (λ (p : Meaning × Spelling). p.0) (and_then (check z zoom_outside 0 (check n colour_long 0 (check w styles_long 0 (done t)))) λ t. on_done (λ m. (m, t)) (check p prefix_long 0 (check q signbox_long 0 (done m))))) symbols
  limits_go t true true true true true = holds
  limits_go t true true true true false = tt
  limits_go t true true true false q = tt
  limits_go t true true false p q = tt
  limits_go t true false w p q = tt
  limits_go t false n w p q = tt

  holds_go : (w : Outcome Spelling) → HoldsSign (on_done (λ p. p.0) (and_then (of_outcome (length s) (dashed at m w)) styled_limits)) symbols
  holds_go (fine t) = limits_go t (zooms_good t) (names_good t) (styles_few t) (leb (length m.prefix) 32) (leb (length m.symbols) 64)
  holds_go (refused p) = tt
  holds_go ends_short = tt

  into_after : (r : Answer (Head × ℕ) Refusal) (o p : List ℕ) → read_styled set s ≡ dashed at m (reading 1 styling (drop at s)) → StylingAfter s at h r o p → StyledInto set s r symbols
  unfolding styled_of
  into_after r o p e v = record { is = rw (e, dash) (v.is m head); holds = rw e (holds_go (reading 1 styling (drop at s))) }

-- WITHOUT A DASH AFTER A WHOLE SIGN

module _ (set : Charset) (s : List ℕ) (symbols : Symbols) where
  undashed_go : (e : Refusal) (w : Outcome Meaning) → refusal (number_of e) (place_of e) ≡ of_outcome (length s) (undashed w)
      → outcome {A = Head × ℕ} (Err e) ≡ on_done (λ p. (head_of p.0, dash_at s)) (and_then (of_outcome (length s) (undashed w)) styled_limits)
  undashed_go e (fine m) q = refusal_as q
  undashed_go e (refused p) q = refusal_as q
  undashed_go e ends_short q = refusal_as q

  unheld_go : (w : Outcome Meaning) → HoldsSign (on_done (λ p. p.0) (and_then (of_outcome (length s) (undashed w)) styled_limits)) symbols
  unheld_go (fine m) = tt
  unheld_go (refused p) = tt
  unheld_go ends_short = tt

  undashed_into : (e : Refusal) → read_styled set s ≡ undashed (read_sign set s) → Undashed set s e → StyledInto set s (Err e) symbols
  unfolding styled_of
  undashed_into e q u = record { is = rw q (undashed_go e (read_sign set s) u.is); holds = rw q (unheld_go (read_sign set s)) }

  -- there is no dash
  pub into_none : (e : Refusal) → length s ≤ dash_at s → Undashed set s e → StyledInto set s (Err e) symbols
  unfolding read_both
  into_none e h = undashed_into e (rw (le-ltb (dash_at s) (length s) h))

  not_fine : (at : ℕ) (o : Outcome Meaning) → read_sign set (take at s) ≡ o → ((m : Meaning) → read_sign set (take at s) ≡ fine m → ⊥) → split (tokens set).unit (sign set) s at o ≡ undashed (read_sign set s)
  not_fine at (fine m) e n = absurd (n m e)
  not_fine at (refused p) e n = refl
  not_fine at ends_short e n = refl

-- what is known of a text that was read as a sign
module _ (set : Charset) (u : List ℕ) (symbols : Symbols) where
  text_refused : (e : Refusal) → TextInto set u (Err e) symbols → (m : Meaning) → read_sign set u ≡ fine m → ⊥
  text_refused e v m q = refusal_done (number_of e) (place_of e) (v.is ∙ ap (λ o. on_done head_of (of_outcome (length u) o)) q)

  record TextRead (h : Head) : Type 0 where
    pub meaning : Meaning
    pub reads : read_sign set u ≡ fine meaning
    pub head : h ≡ head_of meaning
    pub holds : symbols ≡ symbols_of meaning

  text_read : (h : Head) → TextInto set u (Ok h) symbols → TextRead h
  text_read h v =
      let d = was_done head_of (of_outcome (length u) (read_sign set u)) (Ok h) h v.is refl in
      let k : HoldsSign (done d.0) symbols = rw d.1.0 at v.holds in
      record { meaning = d.0; reads = outcome_done (length u) (read_sign set u) d.0 d.1.0; head = sym d.1.1; holds = k }

-- THE TEXT SPLIT AT ITS FIRST DASH
module _ (set : Charset) (s : List ℕ) (h : dash_at s < length s) where
  splits : (o : Outcome Meaning) → read_sign set (take (dash_at s) s) ≡ o → read_styled set s ≡ split (tokens set).unit (sign set) s (dash_at s) o
  unfolding read_both
  splits o q =
      ap (λ t. choose t (split (tokens set).unit (sign set) s (dash_at s) (read_sign set (take (dash_at s) s))) (undashed (read_sign set s))) (lt-ltb (dash_at s) (length s) h)
      ∙ ap (split (tokens set).unit (sign set) s (dash_at s)) q

module _ (set : Charset) (s : List ℕ) (at : ℕ) (e : at ≡ dash_at s) (l : at < length s) (symbols : Symbols) where
  -- what stands before it is no whole sign
  pub into_refused : (d : Refusal) → TextInto set (take at s) (Err d) symbols → (u : Refusal) → Undashed set s u → StyledInto set s (Err u) symbols
  into_refused d v u q =
      let n = text_refused set (take at s) symbols d v in
      undashed_into set s symbols u
      (splits set s (omega arith) (read_sign set (take (dash_at s) s)) refl
      ∙ not_fine set s symbols (dash_at s) (read_sign set (take (dash_at s) s)) refl (λ m y. n m (ap (λ k. read_sign set (take k s)) e ∙ y))) q

  -- it is one
  pub into_split : (h : Head) → TextInto set (take at s) (Ok h) symbols → (r : Answer (Head × ℕ) Refusal) (o p : List ℕ) → StylingAfter s at h r o p → StyledInto set s r symbols
  into_split h v r o p a =
      let t = text_read set (take at s) symbols h v in
      let y = splits set s (omega arith) (fine t.meaning) (ap (λ k. read_sign set (take k s)) (sym e) ∙ t.reads) in
      into_after set s at t.meaning h symbols (sym e) t.head t.holds r o p
      (y ∙ ap (λ k. dashed k t.meaning (reading 1 styling (drop k s))) (sym e)) a

-- THE SIGN AT THE START ENDS AT A DASH
module _ (set : Charset) (s : List ℕ) (h : Head) (at : ℕ) (symbols : Symbols) (v : SignInto set s (Ok (h, at)) symbols) where
  record SignRead : Type 0 where
    pub meaning : Meaning
    pub is : locate (sign set) s 0 ≡ found meaning at
    pub head : h ≡ head_of meaning
    pub holds : symbols ≡ symbols_of meaning

  sign_read : SignRead
  sign_read =
      let d = was_done (λ p. (head_of p.0, p.1)) (result_at (sign set) s 0) (Ok (h, at)) (h, at) v.is refl in
      let k : HoldsSign (done d.0.0) symbols = rw d.1.0 at v.holds in
      let i : d.0.1 ≡ at = ap (λ p. p.1) d.1.1 in
      record {
        meaning = d.0.0;
        is = located_done (length s) (locate (sign set) s 0) d.0.0 at (d.1.0 ∙ ap (λ i. done (d.0.0, i)) i);
        head = sym (ap (λ p. p.0) d.1.1);
        holds = k;
      }

  there : Got (sign set) s 0 sign_read.meaning at
  there = got (tokens set).unit (sign set) (sign_lawful set) s 0 (omega arith) sign_read.meaning at sign_read.is

  text_is : s ≡ sign_text set sign_read.meaning ++ drop at s
  text_is = (rw there.reads at ((sign_lawful set).says s)).0

  module _ (l : at < length s) (b : get_or s at 0 ≡ 45) where
    rest_is : drop at s ≡ 45 ∷ drop (suc at) s
    rest_is = drop-cons s at 0 l ∙ ap (λ b. b ∷ drop (suc at) s) b

    text-split : s ≡ sign_text set sign_read.meaning ++ (45 ∷ drop (suc at) s)
    text-split = text_is ∙ ap (λ u. sign_text set sign_read.meaning ++ u) rest_is

    dash : Dashed (sign set) s
    dash = record { says = sign_read.meaning; valid = there.valid; after = drop (suc at) s; is = text-split }

    size : at ≡ length (sign_text set sign_read.meaning)
    size = there.size ∙ omega arith

    reads : read_styled set s ≡ dashed at sign_read.meaning (reading 1 styling (drop at s))
    reads =
        ap (read_styled set) text-split
        ∙ reads_dashed (tokens set).unit (sign set) (sign_fine set) (sign_plain set) sign_read.meaning there.valid (drop (suc at) s)
        ∙ (λ i. dashed (sym size i) sign_read.meaning (reading 1 styling (sym rest_is i)))

    pub dash_there : dash_at s ≡ at
    unfolding dash
    dash_there = dash_of (tokens set).unit (sign set) (sign_fine set) (sign_plain set) s dash ∙ sym size

    pub into_dash : (r : Answer (Head × ℕ) Refusal) (o p : List ℕ) → StylingAfter s at h r o p → StyledInto set s r symbols
    into_dash r o p = into_after set s at sign_read.meaning h symbols dash_there sign_read.head sign_read.holds r o p reads

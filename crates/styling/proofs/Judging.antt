-- A styling that is judged with its sign, and the first dash.
use Prim.Native.Nat.{ℕ, suc, ◌+◌, ◌≤◌, ◌<◌}
use mathlib.Core.List.{List, [], ◌∷◌}
use mathlib.Core.Path.{◌≡◌, refl, sym, ap, ◌∙◌}
use mathlib.Core.Bool.{Bool, true, false, cond, not}
use lib.Dec.{eqb, leb, ltb}
use lib.ListN.{length, drop}
use native.Mathlib.Omega.{arith}
use borrow.Author.Tests.{leb-true, leb-false, lt-ltb, le-ltb, ltb-true, ltb-false}
use Rattle.std.specs.Prelude.{Result as Answer, Ok, Err, Option, Some, None}
use Rattle.std.specs.Result.{IsErrAnd}
use Rattle.std.specs.List.{position, position_or_len}
use Rattle.format.specs.Format.{choose}
use Rattle.format.specs.Places.{Outcome, fine, refused, ends_short, reading}
use Rattle.charset.specs.declared.Charset.{Charset}
use Rattle.grammar.specs.declared.Head.{Head}
use Rattle.grammar.specs.declared.Symbols.{Symbols}
use Rattle.grammar.specs.Sign.{Meaning, read_sign}
use Rattle.token.specs.declared.refusal.Refusal.{Refusal}
use Rattle.token.specs.declared.refusal.Refusal.TheVariants.{TextShort}
use Rattle.token.specs.Refusal.{number_of, place_of, prefix_long, signbox_long, zoom_outside, colour_long, styles_long}
use Rattle.token.specs.Result.{Result, refusal, done, outcome, on_done, check, and_then, of_outcome}
use Rattle.token.proofs.Checks.{refusal_done}
use Rattle.token.proofs.Results.{same_done}
use Rattle.token.proofs.Handed.{handed}
use Rattle.reader.specs.Signs.{within_limits}
use Rattle.reader.specs.Inner.{head_of, limited, TextInto}
use Rattle.stylinggrammar.specs.Styling.{Spelling, styling}
use Rattle.stylinggrammar.specs.Meaning.{zooms_good, names_good, styles_few}
use Rattle.stylinggrammar.specs.Styled.{dash_at, undashed, dashed}
use Rattle.stylingreader.specs.declared.reading.Found.{Found}
use Rattle.stylingreader.specs.Reading.{found_of, StylingIn}
use Rattle.styling.specs.Reading.{styled_limits}
use Rattle.styling.specs.Inner.{Undashed, judged_head, StylingAfter}
use Rattle.styling.proofs.Offsets.{shifted, from_offset}

-- a refusal of another call
pub refusal_as : {A B : Type 0} {n p k q : ℕ} → ◌≡◌ {A = Result A} (refusal n p) (refusal k q) → ◌≡◌ {A = Result B} (refusal n p) (refusal k q)
refusal_as {n = n} {p = p} {k = k} {q = q} e = let x : n ≡ k = cc in let y : p ≡ q = cc in λ i. refusal (x i) (y i)

-- A STYLING AFTER A SIGN

module _ (at : ℕ) (m : Meaning) (t : Spelling) where
  limits_go : (p q : Bool) → leb (length m.prefix) 32 ≡ p → leb (length m.symbols) 64 ≡ q
      → on_done {B = Head × ℕ} (λ h. (h, at)) (outcome (limited (head_of m)))
      ≡ on_done {B = Head × ℕ} (λ (p : Meaning × Spelling). (head_of p.0, at)) (on_done (λ m. (m, t)) (check p prefix_long 0 (check q signbox_long 0 (done m))))
  unfolding limited
  limits_go false q x y = rw (lt-ltb 32 (length m.prefix) (leb-false (length m.prefix) 32 x))
  limits_go true false x y =
      rw (le-ltb 32 (length m.prefix) (leb-true (length m.prefix) 32 x), lt-ltb 64 (length m.symbols) (leb-false (length m.symbols) 64 y))
  limits_go true true x y =
      rw (le-ltb 32 (length m.prefix) (leb-true (length m.prefix) 32 x), le-ltb 64 (length m.symbols) (leb-true (length m.symbols) 64 y))

  judged_go : (z n w : Bool)
      → on_done {B = Head × ℕ} (λ h. (h, at)) (outcome (judged_head (record { zooms = z; names = n; few = w }) (head_of m)))
      ≡ on_done {B = Head × ℕ} (λ (p : Meaning × Spelling). (head_of p.0, at)) (and_then (check z zoom_outside 0 (check n colour_long 0 (check w styles_long 0 (done t)))) λ t. on_done (λ m. (m, t)) (within_limits m))
  unfolding judged_head
  judged_go true true true = limits_go (leb (length m.prefix) 32) (leb (length m.symbols) 64) refl refl
  judged_go true true false = refl
  judged_go true false w = refl
  judged_go false n w = refl

  judged_is : on_done {B = Head × ℕ} (λ h. (h, at)) (outcome (judged_head (found_of t) (head_of m))) ≡ on_done {B = Head × ℕ} (λ p. (head_of p.0, at)) (styled_limits (m, t))
  judged_is = judged_go (zooms_good t) (names_good t) (styles_few t)

module _ (s : List ℕ) (at : ℕ) (room : at ≤ length s) (h : Head) (r : Answer (Head × ℕ) Refusal) (o p : List ℕ) where
  -- the styling is refused
  refused_go : (e : Refusal) (m : Meaning) (w : Outcome Spelling) → outcome {A = Found} (Err e) ≡ on_done found_of (of_outcome (length s) (shifted at w))
      → outcome {A = Head × ℕ} (Err e) ≡ on_done {B = Head × ℕ} (λ p. (head_of p.0, at)) (and_then (of_outcome (length s) (dashed at m w)) styled_limits)
  refused_go e m (fine t) q = refusal_done (number_of e) (place_of e) q
  refused_go e m (refused i) q = refusal_as q
  refused_go e m ends_short q = refusal_as q

  pub after_refused : (e : Refusal) → StylingIn s at (Err e) o p → IsErrAnd r (λ d. d ≡ e) → StylingAfter s at h r o p
  after_refused e v k = record {
    is = λ m q. ap outcome (handed r e k) ∙ refused_go e m (reading 1 styling (drop at s)) (v.is ∙ ap (on_done found_of) (from_offset s at room));
    puts = v.puts;
  }

  -- it is found
  record WasFound (f : Found) : Type 0 where
    pub spelling : Spelling
    pub reads : reading 1 styling (drop at s) ≡ fine spelling
    pub is : f ≡ found_of spelling

  found_go : (f : Found) (w : Outcome Spelling) → reading 1 styling (drop at s) ≡ w → done f ≡ on_done found_of (of_outcome (length s) (shifted at w)) → WasFound f
  found_go f (fine t) e q = record { spelling = t; reads = e; is = same_done q }
  found_go f (refused i) e q = refusal_done 1 (at + i) (sym q)
  found_go f ends_short e q = refusal_done 2 (length s) (sym q)

  pub after_judged : (f : Found) → StylingIn s at (Ok f) o p → outcome r ≡ on_done {B = Head × ℕ} (λ h. (h, at)) (outcome (judged_head f h)) → StylingAfter s at h r o p
  after_judged f v e =
      let w = found_go f (reading 1 styling (drop at s)) refl (v.is ∙ ap (on_done found_of) (from_offset s at room)) in
      record {
        is = λ m q.
            e ∙ (λ i. on_done {B = Head × ℕ} (λ h. (h, at)) (outcome (judged_head (w.is i) (q i)))) ∙ judged_is at m w.spelling
            ∙ ap (λ w. on_done {B = Head × ℕ} (λ p. (head_of p.0, at)) (and_then (of_outcome (length s) (dashed at m w)) styled_limits)) (sym w.reads);
        puts = v.puts;
      }

-- WITHOUT A DASH

module _ (set : Charset) (s : List ℕ) (symbols : Symbols) where
  unread_go : (e : Refusal) (w : Outcome Meaning) → outcome {A = Head} (Err e) ≡ on_done head_of (of_outcome (length s) w)
      → ◌≡◌ {A = Result (Meaning × Spelling)} (refusal (number_of e) (place_of e)) (of_outcome (length s) (undashed w))
  unread_go e (fine m) q = refusal_done (number_of e) (place_of e) q
  unread_go e (refused p) q = refusal_as q
  unread_go e ends_short q = refusal_as q

  pub undashed_refused : (e : Refusal) → TextInto set s (Err e) symbols → Undashed set s e
  undashed_refused e v = record { is = unread_go e (read_sign set s) v.is }

  whole_go : (h : Head) (w : Outcome Meaning) → done h ≡ on_done head_of (of_outcome (length s) w)
      → ◌≡◌ {A = Result (Meaning × Spelling)} (refusal 2 (length s)) (of_outcome (length s) (undashed w))
  whole_go h (fine m) q = refl
  whole_go h (refused p) q = refusal_done 1 p (sym q)
  whole_go h ends_short q = refl

  pub undashed_whole : (h : Head) → TextInto set s (Ok h) symbols → Undashed set s (TextShort (length s))
  undashed_whole h v = record { is = whole_go h (read_sign set s) v.is }

-- THE FIRST DASH

dash_go : (n m : ℕ) → n ≡ m → (t : Bool) → cond (not t) (1 + n) 0 ≡ choose t 0 (suc m)
dash_go n m e true = refl
dash_go n m e false = omega (arith, e)

dash_is : (s : List ℕ) → position_or_len (λ b. eqb b 45) s ≡ dash_at s
unfolding dash_at
dash_is [] = refl
dash_is (b ∷ s) = dash_go (position_or_len (λ b. eqb b 45) s) (dash_at s) (dash_is s) (eqb b 45)

module _ (s : List ℕ) (r : Option ℕ) (e : r ≡ position (λ b. eqb b 45) s) where
  found_dash : r ≡ cond (ltb (dash_at s) (length s)) (Some (dash_at s)) None
  found_dash = e ∙ ap (λ n. cond (ltb n (length s)) (Some n) None) (dash_is s)

  none_go : (t : Bool) → ltb (dash_at s) (length s) ≡ t → None ≡ cond t (Some (dash_at s)) None → length s ≤ dash_at s
  none_go true q k = absurd (cc k)
  none_go false q k = ltb-false (dash_at s) (length s) q

  pub dash_none : r ≡ None → length s ≤ dash_at s
  dash_none k = none_go (ltb (dash_at s) (length s)) refl (sym k ∙ found_dash)

  some_go : (at : ℕ) (t : Bool) → ltb (dash_at s) (length s) ≡ t → Some at ≡ cond t (Some (dash_at s)) None → (at ≡ dash_at s) × (at < length s)
  some_go at true q k = let x : at ≡ dash_at s = cc in let y = ltb-true (dash_at s) (length s) q in (x, omega arith)
  some_go at false q k = absurd (cc k)

  pub dash_some : (at : ℕ) → r ≡ Some at → (at ≡ dash_at s) × (at < length s)
  dash_some at k = some_go at (ltb (dash_at s) (length s)) refl (sym k ∙ found_dash)

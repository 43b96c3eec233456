-- The plain reader refuses the dash after a whole sign.
use Prim.Native.Nat.{ℕ, suc, ◌+◌, ◌*◌, ◌<◌}
use mathlib.Core.List.{List, [], ◌∷◌, ◌++◌, append-nil}
use mathlib.Core.Path.{◌≡◌, refl, sym, ap, ◌∙◌}
use mathlib.Core.Bool.{Bool, true, false}
use lib.Dec.{ltb}
use lib.ListN.{length, take, length-append}
use lib.Seq.{take-append_seam, take_all}
use native.Mathlib.Omega.{arith}
use borrow.Author.Tests.{ltb-true, ltb-false, le-ltb}
use Rattle.format.specs.Format.{value, other, choose, many}
use Rattle.format.specs.Places.{Begins, Formed, refused, ends_short, Means}
use Rattle.format.proofs.Unit.{unit_below}
use Rattle.format.proofs.Begun.{absent_other}
use Rattle.charset.specs.declared.Charset.{Charset}
use Rattle.charset.specs.declared.Charset.TheVariants.{Fsw, Swu}
use Rattle.charset.specs.Bytes.{byte_of}
use Rattle.charset.specs.Tokens.{fsw, tokens, key, last_writing}
use Rattle.charset.proofs.Sets.{lawful}
use Rattle.charset.proofs.Units.{after_other}
use Rattle.grammar.specs.Sign.{Meaning, Valid, Parts, spatial, parts, point, of_meaning, sign, sign_text, read_sign}
use Rattle.grammar.proofs.Sign.{all_follow, sequence_other, prefix_follow, spatial_fixed, lead_fixed, sound, alike, sign_lawful}
use Rattle.grammar.proofs.SignLaws.{sign_laws}
use Rattle.grammar.proofs.SignBytes.{sign_over}
use Rattle.stylinggrammar.proofs.Dashes.{over_plain}
use Rattle.stylinggrammar.proofs.FswPlaces.{not_plain, plain_front}

-- no symbol begins with a dash
no_symbol : (rest : List ℕ) → (spatial fsw).read (45 ∷ rest) ≡ other
no_symbol rest =
    sequence_other (fsw.symbol last_writing) (λ v. point fsw) (45 ∷ rest)
    (after_other 83 (key last_writing) (45 ∷ rest) (unit_below 1 (byte_of λ a. a) (λ a. a ∷ []) 83 83 (45 ∷ []) rest refl (omega arith)))

follow_go : (v : Parts) → (parts fsw).Valid v → (rest : List ℕ) → (parts fsw).Follow v (45 ∷ rest)
follow_go v ok rest =
    let b = v.1 in
    let box = ok.1 in (
      (
        all_follow 1 (spatial fsw) (spatial_fixed fsw (lawful Fsw)).delimited b.1 (45 ∷ rest) box.1 (absent_other (45 ∷ rest) (no_symbol rest)),
        (lead_fixed fsw (lawful Fsw)).delimited.free b.0 ((many (spatial fsw)).write b.1 ++ (45 ∷ rest)) box.0,
      ),
      prefix_follow fsw (lawful Fsw) v.0 b (45 ∷ rest) ok.0 box,
    )

dash_follows : (m : Meaning) → Valid m → (rest : List ℕ) → (sign Fsw).Follow m (45 ∷ rest)
dash_follows m ok rest = follow_go (of_meaning m) (sound fsw (alike Fsw) m ok) rest

module _ (m : Meaning) (ok : Valid m) (after : List ℕ) where
  plain_fsw : read_sign Fsw (sign_text Fsw m ++ (45 ∷ after)) ≡ refused (length (sign_text Fsw m))
  plain_fsw =
      let text = sign_text Fsw m ++ (45 ∷ after) in
      let e : (sign Fsw).read text ≡ value m (45 ∷ after) = (sign_lawful Fsw).reads m (45 ∷ after) ok (dash_follows m ok after) in
      rw (e, le-ltb (suc (length after)) 1 (omega arith)) (ap refused (omega (arith, length-append (sign_text Fsw m) (45 ∷ after))))

  abbrev i : ℕ
  i = length (sign_text Swu m)

  abbrev text : List ℕ
  text = sign_text Swu m ++ (45 ∷ after)

  -- what has the dash in it begins no sign
  no_begin : (s : ℕ) → i < s → Begins (sign Swu) (take s text) → ⊥
  no_begin s h b =
      not_plain (sign_text Swu m) after s h
      (plain_front (take s text) b.more (rw b.is at (over_plain (sign_text Swu b.says) (sign_over Swu b.says))))

  size : length text ≡ i + suc (length after)
  size = length-append (sign_text Swu m) (45 ∷ after)

  units : (n : ℕ) × (i ≡ n * 4)
  units = (sign_lawful Swu).whole m ok

  begun : Begins (sign Swu) (take i text)
  begun = record { says = m; valid = ok; more = []; is = sym (append-nil (take i text) ∙ take-append_seam (sign_text Swu m) (45 ∷ after)) }

  unformed : Formed (sign Swu) text → ⊥
  unformed k =
      no_begin (length text) (omega (arith, size))
      (record { says = k.says; valid = k.valid; more = []; is = sym (append-nil (take (length text) text) ∙ take_all (length text) text (omega arith) ∙ k.is) })

  swu_means : (t : Bool) → ltb (suc (length after)) 4 ≡ t → Means 4 (sign Swu) text (choose t ends_short (refused i))
  swu_means true e =
      let n = units in
      record {
        units = n.0;
        inside = omega (arith, size, n.1);
        less = omega (arith, size, n.1, ltb-true (suc (length after)) 4 e);
        begins = rw (← n.1) begun;
        unformed = unformed;
      }
  swu_means false e =
      let n = units in
      record {
        inside = omega (arith, size, ltb-false (suc (length after)) 4 e);
        unit = n.0;
        multiple = n.1;
        begins = begun;
        never = no_begin (i + 4) (omega arith);
      }

  plain_swu : read_sign Swu text ≡ choose (ltb (suc (length after)) 4) ends_short (refused i)
  plain_swu = ((sign_laws Swu).places text (choose (ltb (suc (length after)) 4) ends_short (refused i))).1 (swu_means (ltb (suc (length after)) 4) refl)

pub plain_refused : (set : Charset) (m : Meaning) → Valid m → (after : List ℕ)
    → read_sign set (sign_text set m ++ (45 ∷ after)) ≡ choose (ltb (suc (length after)) (tokens set).unit) ends_short (refused (length (sign_text set m)))
plain_refused Fsw m ok after = plain_fsw m ok after ∙ sym (ap (λ t. choose t ends_short (refused (length (sign_text Fsw m)))) (le-ltb (suc (length after)) 1 (omega arith)))
plain_refused Swu m ok after = plain_swu m ok after

-- A word is exact, where every beginning of one can be completed.
use Prim.Native.Nat.{ℕ, ◌≤◌, ◌<◌}
use mathlib.Core.List.{List, [], ◌∷◌, ◌++◌, append_assoc, append-nil}
use mathlib.Core.Path.{◌≡◌, refl, sym, ap, subst, ◌∙◌}
use mathlib.Core.Bool.{Bool, true, false}
use lib.ListN.{length, length-append}
use native.Mathlib.Omega.{arith}
use native.Mathlib.Nat.{mul-one}
use Rattle.format.specs.Format.{Answer, value, other, wrong, short, choose}
use Rattle.format.specs.Places.{Begins}
use Rattle.format.proofs.Lawful.{Says, Lawful}
use Rattle.format.proofs.Exact.{Exact, Fails}
use Rattle.format.proofs.Delimited.{same_rest, value_wrong, short_wrong, other_wrong}
use Rattle.format.proofs.Open.{Open}
use Rattle.charset.proofs.Coding.{by_test}
use Rattle.stylinggrammar.specs.Word.{stopped, go_on, Stops, word}
use Rattle.stylinggrammar.proofs.Tests.{true_false}

-- what the two tests must agree on
pub record Spells (begins is : List ℕ → Bool) : Type 0 where
  pub nothing : begins [] ≡ true
  pub something : is [] ≡ false
  pub whole : (c : List ℕ) → is c ≡ true → begins c ≡ true
  pub earlier : (c d : List ℕ) → begins (c ++ d) ≡ true → begins c ≡ true
  pub completes : (c : List ℕ) → begins c ≡ true → (more : List ℕ) × (is (c ++ more) ≡ true)

module _ (begins is : List ℕ → Bool) (s : Spells begins is) where
  -- the bytes of a beginning are read through
  through : (v rest front : List ℕ) → begins (front ++ v) ≡ true → go_on begins is front (v ++ rest) ≡ go_on begins is (front ++ v) rest
  through [] rest front h = ap (λ k. go_on begins is k rest) (sym (append-nil front))
  through (b ∷ v) rest front h =
      let e : (front ++ (b ∷ [])) ++ v ≡ front ++ (b ∷ v) = append_assoc front (b ∷ []) v in
      let k : begins ((front ++ (b ∷ [])) ++ v) ≡ true = ap begins e ∙ h in
      ap (λ t. choose t (go_on begins is (front ++ (b ∷ [])) (v ++ rest)) (stopped begins is front (b ∷ (v ++ rest)))) (s.earlier (front ++ (b ∷ [])) v k)
      ∙ through v rest (front ++ (b ∷ [])) k
      ∙ ap (λ u. go_on begins is u rest) e

  -- where it does not go on, the reader stops
  halts : (front : List ℕ) (b : ℕ) (rest : List ℕ) → begins (front ++ (b ∷ [])) ≡ false → go_on begins is front (b ∷ rest) ≡ stopped begins is front (b ∷ rest)
  halts front b rest e = ap (λ t. choose t (go_on begins is (front ++ (b ∷ [])) rest) (stopped begins is front (b ∷ rest))) e

  stopped_word : (v rest : List ℕ) → is v ≡ true → stopped begins is v rest ≡ value v rest
  stopped_word v [] e = ap (λ t. choose t (value v []) short) e
  stopped_word [] (b ∷ rest) e = true_false (sym e ∙ s.something)
  stopped_word (a ∷ v) (b ∷ rest) e = ap (λ t. choose t (value (a ∷ v) (b ∷ rest)) (wrong (b ∷ rest))) e

  word_ends : (v rest : List ℕ) → is v ≡ true → Stops begins is v rest → go_on begins is v rest ≡ value v rest
  word_ends v [] e h = stopped_word v [] e
  word_ends v (b ∷ rest) e h = halts v b rest h ∙ stopped_word v (b ∷ rest) e

  -- WHAT READING TELLS OF A TEXT

  pub record Unbegun (text : List ℕ) : Type 0 where
    pub byte : ℕ
    pub tail : List ℕ
    pub is_text : text ≡ byte ∷ tail
    pub never : begins (byte ∷ []) ≡ false

  -- a beginning that is no word, and a byte that does not go on with it
  pub record Broken (text rest : List ℕ) : Type 0 where
    pub first : ℕ
    pub more : List ℕ
    pub byte : ℕ
    pub tail : List ℕ
    pub splits : text ≡ (first ∷ more) ++ rest
    pub is_rest : rest ≡ byte ∷ tail
    pub begun : begins (first ∷ more) ≡ true
    pub no_word : is (first ∷ more) ≡ false
    pub never : begins ((first ∷ more) ++ (byte ∷ [])) ≡ false

  abbrev pub Tells : List ℕ → Answer (List ℕ) → Type 0
  Tells text (value v rest) = (text ≡ v ++ rest) × (is v ≡ true) × Stops begins is v rest
  Tells text other = Unbegun text
  Tells text (wrong rest) = Broken text rest
  Tells text short = begins text ≡ true

  stopped_tells : (front : List ℕ) (b : ℕ) (text : List ℕ) → begins front ≡ true → begins (front ++ (b ∷ [])) ≡ false
      → Tells (front ++ (b ∷ text)) (stopped begins is front (b ∷ text))
  stopped_tells [] b text k e =
      by_test (Tells (b ∷ text)) (is []) (λ x. true_false (sym x ∙ s.something)) λ x.
      record { byte = b; tail = text; is_text = refl; never = e }
  stopped_tells (a ∷ front) b text k e =
      by_test (Tells ((a ∷ front) ++ (b ∷ text))) (is (a ∷ front)) (λ x. (refl, x, e)) λ x.
      record { first = a; more = front; byte = b; tail = text; splits = refl; is_rest = refl; begun = k; no_word = x; never = e }

  tells : (text front : List ℕ) → begins front ≡ true → Tells (front ++ text) (go_on begins is front text)
  tells [] front k =
      by_test (Tells (front ++ [])) (is front) (λ x. (refl, x, tt)) λ x. ap begins (append-nil front) ∙ k
  tells (b ∷ text) front k =
      by_test (Tells (front ++ (b ∷ text))) (begins (front ++ (b ∷ [])))
      (λ x. subst (λ (u : List ℕ). Tells u (go_on begins is (front ++ (b ∷ [])) text)) (append_assoc front (b ∷ []) text) (tells text (front ++ (b ∷ [])) x))
      (λ x. stopped_tells front b text k x)

  reading_tells : (text : List ℕ) → Tells text (go_on begins is [] text)
  reading_tells text = tells text [] s.nothing

  -- THE WORD

  begins_so : (front : List ℕ) → begins front ≡ true → Begins (word begins is) front
  begins_so front k = let m = s.completes front k in record { says = front ++ m.0; valid = m.1; more = m.0; is = refl }

  says_go : (text : List ℕ) (r : Answer (List ℕ)) → Tells text r → Says (word begins is) text r
  says_go text (value v rest) t = t
  says_go text other t = tt
  says_go text (wrong rest) t = tt
  says_go text short t = tt

  fails_go : (text : List ℕ) (r : Answer (List ℕ)) → Tells text r → Fails 1 (word begins is) text r
  fails_go text (value v rest) t = tt
  fails_go text other t = record {
    here = t.byte ∷ [];
    tail = t.tail;
    is = t.is_text;
    long = refl;
    stays = λ u. halts [] t.byte u t.never ∙ ap (λ k. choose k (value [] (t.byte ∷ u)) other) s.something;
  }
  fails_go text (wrong rest) t =
      let front : List ℕ = t.first ∷ t.more in
      record {
        front = front;
        here = t.byte ∷ [];
        tail = t.tail;
        splits = t.splits;
        is = t.is_rest;
        long = refl;
        whole = (length front, sym (mul-one (length front)));
        begins = begins_so front t.begun;
        stays = λ u.
            through front (t.byte ∷ u) [] t.begun ∙ halts front t.byte u t.never
            ∙ ap (λ k. choose k (value front (t.byte ∷ u)) (wrong (t.byte ∷ u))) t.no_word;
      }
  fails_go text short t = record {
    front = text;
    bit = [];
    is = sym (append-nil text);
    less = omega arith;
    whole = (length text, sym (mul-one (length text)));
    begins = begins_so text t;
  }

  stops_keeps : (v x t u : List ℕ) → 1 ≤ length x → Stops begins is v (x ++ t) → Stops begins is v (x ++ u)
  stops_keeps v [] t u k h = absurd (omega arith)
  stops_keeps v (b ∷ x) t u k h = h

  pub word_lawful : Lawful 1 (word begins is)
  word_lawful = record {
    whole = λ v ok. (length v, sym (mul-one (length v)));
    reads = λ v rest ok p. through v rest [] (s.whole v ok) ∙ word_ends v rest ok p;
    says = λ text. says_go text (go_on begins is [] text) (reading_tells text);
  }

  pub word_exact : Exact 1 (word begins is)
  word_exact = record {
    lawful = word_lawful;
    wide = omega arith;
    some = begins_so [] s.nothing;
    keeps = λ v x t u ok k h. stops_keeps v x t u k h;
    fails = λ text. fails_go text (go_on begins is [] text) (reading_tells text);
  }

  -- a word has a byte, and what is wrong stands after one
  word_solid : (v : List ℕ) → is v ≡ true → 1 ≤ length v
  word_solid [] ok = true_false (sym ok ∙ s.something)
  word_solid (b ∷ v) ok = omega arith

  firm_go : (text rest : List ℕ) (r : Answer (List ℕ)) → Tells text r → r ≡ wrong rest → length rest < length text
  firm_go text rest (value v left) t e = value_wrong e
  firm_go text rest other t e = other_wrong e
  firm_go text rest (wrong left) t e =
      let z : left ≡ rest = same_rest e in
      omega (arith, ap length z, ap length t.splits, length-append (t.first ∷ t.more) left)
  firm_go text rest short t e = short_wrong e

  pub word_open : Open 1 (word begins is)
  word_open = record {
    lawful = word_lawful;
    solid = word_solid;
    empty = ap (λ k. choose k (value [] []) short) s.something;
    firm = λ text rest e. firm_go text rest (go_on begins is [] text) (reading_tells text) e;
  }

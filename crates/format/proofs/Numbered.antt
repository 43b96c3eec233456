-- An exact format, and a reader of the same texts that tells a wrong number at its first byte: how the two differ.
use Prim.Native.Nat.{ℕ, zero, suc, ◌≤◌, ◌<◌}
use mathlib.Core.List.{List, [], ◌∷◌, ◌++◌, append_assoc, append-nil}
use mathlib.Core.Path.{◌≡◌, refl, sym, ap, ◌∙◌}
use mathlib.Core.Logic.{◌⊎◌, inl, inr}
use mathlib.Core.Option.{Option, none, some}
use lib.ListN.{length, length-append}
use native.Mathlib.Omega.{arith}
use Rattle.format.specs.Format.{Answer, value, other, wrong, short, Format, All, first, second, maybe, run, sequence, mapped, optional, many}
use Rattle.format.specs.Numeral.{Range}
use Rattle.format.specs.Numbers.{After}
use Rattle.format.specs.Places.{Begins}
use Rattle.format.proofs.Lawful.{Says}
use Rattle.format.proofs.Exact.{Exact, begins_more}
use Rattle.format.proofs.Parts.{Inverse}
use Rattle.format.proofs.Delimited.{value_wrong}
use Rattle.format.proofs.Many.{step}

abbrev pub Reader : Type 0 → Type 0
Reader A = List ℕ → Answer A

-- a text that begins with a decimal digit
abbrev pub Led : List ℕ → Type 0
Led [] = ⊥
Led (b ∷ t) = Range 48 57 b

-- what a reader answers where it was to go on with a number at start, after x, and does not: it is wrong there;
-- it has not begun; or it has passed an optional part over
pub data Late {A : Type 0} (x start : List ℕ) (s : Answer A) : Type 0 where
  there : s ≡ wrong start → Late x start s
  unbegun : x ≡ [] → s ≡ other → Late x start s
  past : (v : A) → s ≡ value v start → Late x start s

-- no digit, and no end of an optional part, is what a reader begins with
abbrev pub Shut : {A : Type 0} → Reader A → Type 0
Shut r = (start : List ℕ) → Led start → Late [] start (r start)

abbrev pub Nowhere : List ℕ → Type 0
Nowhere x = ⊥

-- N is the number
module _ (N : Format ℕ) where
  -- after x a number is read, by the exact format f and by the reader r
  pub record Calls {A : Type 0} (f : Format A) (r : Reader A) (x : List ℕ) : Type 0 where
    pub begins : (n : ℕ) → N.Valid n → Begins f (x ++ N.write n)
    pub wrongs : (start rest : List ℕ) → Led start → N.read start ≡ wrong rest → f.read (x ++ start) ≡ wrong rest
    pub others : (start : List ℕ) → Led start → N.read start ≡ other → Late x start (f.read (x ++ start))
    pub late : (start rest : List ℕ) → Led start → N.read start ≡ wrong rest → Late x start (r (x ++ start))

  -- the reader answers as the format does; or a number after x is wrong
  pub data Like {A : Type 0} (C : List ℕ → Type 0) (f : Format A) (r : Reader A) (text : List ℕ) : Type 0 where
    same : r text ≡ f.read text → Like C f r text
    moved : (x start rest : List ℕ) → C x → text ≡ x ++ start → Led start → N.read start ≡ wrong rest → Like C f r text

  -- C says where numbers stand
  pub record Numbered {A : Type 0} (C : List ℕ → Type 0) (f : Format A) (r : Reader A) : Type 0 where
    pub calls : (x : List ℕ) → C x → Calls f r x
    pub like : (text : List ℕ) → Like C f r text

  pub plain_numbered : {A : Type 0} (f : Format A) → Numbered Nowhere f f.read
  plain_numbered f = record { calls = λ x c. absurd c; like = λ text. same refl }

  -- where numbers stand, said otherwise
  module _ {A : Type 0} (C D : List ℕ → Type 0) (f : Format A) (r : Reader A) (to : (x : List ℕ) → C x → D x) (from : (x : List ℕ) → D x → C x) where
    r_like : (text : List ℕ) → Like C f r text → Like D f r text
    r_like text (same e) = same e
    r_like text (moved x start rest c z h e) = moved x start rest (to x c) z h e

    pub resaid : Numbered C f r → Numbered D f r
    resaid n = record { calls = λ x d. n.calls x (from x d); like = λ text. r_like text (n.like text) }

  -- OTHER VALUES
  module _ {A B : Type 0} (C : List ℕ → Type 0) (f : Format A) (r : Reader A) (to : A → B) (from : B → A) (P : B → Type 0) (i : Inverse f to from P) where
    abbrev mf : Format B
    mf = mapped f to from P

    abbrev mk : Answer A → Answer B
    mk s = first s λ a rest. value (to a) rest

    m_late : (x start : List ℕ) (s : Answer A) → Late x start s → Late x start (mk s)
    m_late x start s (there e) = there (ap mk e)
    m_late x start s (unbegun z e) = unbegun z (ap mk e)
    m_late x start s (past v e) = past (to v) (ap mk e)

    m_extends : (a : A) → f.Valid a → Begins mf (f.write a)
    m_extends a ok = record { says = to a; valid = i.good a ok; more = []; is = ap f.write (i.back a ok) ∙ sym (append-nil (f.write a)) }

    m_calls : (x : List ℕ) → Calls f r x → Calls mf (λ t. mk (r t)) x
    m_calls x c = record {
      begins = λ k ok. begins_more f mf (x ++ N.write k) m_extends (c.begins k ok);
      wrongs = λ start rest h e. ap mk (c.wrongs start rest h e);
      others = λ start h e. m_late x start (f.read (x ++ start)) (c.others start h e);
      late = λ start rest h e. m_late x start (r (x ++ start)) (c.late start rest h e);
    }

    m_like : (text : List ℕ) → Like C f r text → Like C mf (λ t. mk (r t)) text
    m_like text (same e) = same (ap mk e)
    m_like text (moved x start rest c z h e) = moved x start rest c z h e

    pub mapped_numbered : Numbered C f r → Numbered C (mapped f to from P) (λ t. first (r t) λ a rest. value (to a) rest)
    mapped_numbered n = record { calls = λ x c. m_calls x (n.calls x c); like = λ text. m_like text (n.like text) }

  -- AN OPTIONAL PART
  module _ {A : Type 0} (C : List ℕ → Type 0) (f : Format A) (r : Reader A) where
    abbrev of : Format (Option A)
    of = optional f

    abbrev ok_on : List ℕ → Answer A → Answer (Option A)
    ok_on text s = maybe none text s λ a rest. value (some a) rest

    o_late : (x start : List ℕ) (s : Answer A) → Late x start s → Late x start (ok_on (x ++ start) s)
    o_late x start s (there e) = there (ap (ok_on (x ++ start)) e)
    o_late x start s (unbegun z e) = past none (ap (ok_on (x ++ start)) e ∙ ap (λ k. value none (k ++ start)) z)
    o_late x start s (past v e) = past (some v) (ap (ok_on (x ++ start)) e)

    o_extends : (a : A) → f.Valid a → Begins of (f.write a)
    o_extends a ok = record { says = some a; valid = ok; more = []; is = sym (append-nil (f.write a)) }

    o_calls : (x : List ℕ) → Calls f r x → Calls of (λ t. ok_on t (r t)) x
    o_calls x c = record {
      begins = λ k ok. begins_more f of (x ++ N.write k) o_extends (c.begins k ok);
      wrongs = λ start rest h e. ap (ok_on (x ++ start)) (c.wrongs start rest h e);
      others = λ start h e. o_late x start (f.read (x ++ start)) (c.others start h e);
      late = λ start rest h e. o_late x start (r (x ++ start)) (c.late start rest h e);
    }

    o_like : (text : List ℕ) → Like C f r text → Like C of (λ t. ok_on t (r t)) text
    o_like text (same e) = same (ap (ok_on text) e)
    o_like text (moved x start rest c z h e) = moved x start rest c z h e

    pub optional_numbered : Numbered C f r → Numbered C (optional f) (λ t. maybe none t (r t) λ a rest. value (some a) rest)
    optional_numbered n = record { calls = λ x c. o_calls x (n.calls x c); like = λ text. o_like text (n.like text) }

  -- ONE AND THEN ANOTHER
  module _ {A : Type 0} (C : List ℕ → Type 0) (f : Format A) (r : Reader A) (n : Numbered C f r) where
    -- what the format reads as a value, the reader does
    reads_too : (text : List ℕ) (a : A) (rest : List ℕ) → f.read text ≡ value a rest → r text ≡ value a rest
    reads_too text a rest e = go (n.like text)
      where
        go : Like C f r text → r text ≡ value a rest
        go (same z) = z ∙ e
        go (moved x start end c z h q) = value_wrong (sym e ∙ ap f.read z ∙ (n.calls x c).wrongs start end h q)

  -- a number that the second calls, the whole h calls: c joins the values, k is the whole's reader
  module _ {A B E : Type 0} (C : List ℕ → Type 0) (f : Format A) (r : Reader A) (g : Format B) (q : Reader B) (c : A → B → E) (h : Format E) (k : Reader E)
      (l : Exact 1 f) (n : Numbered C f r) (a : A) (ok : f.Valid a) (y : List ℕ)
      (follow : (start : List ℕ) → Led start → f.Follow a (y ++ start))
      (begins-h : (x : List ℕ) → Begins g x → Begins h (f.write a ++ x))
      (reads-h : (rest : List ℕ) → f.read (f.write a ++ rest) ≡ value a rest → h.read (f.write a ++ rest) ≡ second (c a) rest (g.read rest))
      (reads-k : (rest : List ℕ) → r (f.write a ++ rest) ≡ value a rest → k (f.write a ++ rest) ≡ second (c a) rest (q rest)) where
    holds : (start : List ℕ) → Led start → f.read (f.write a ++ (y ++ start)) ≡ value a (y ++ start)
    holds start z = l.lawful.reads a (y ++ start) ok (follow start z)

    s_late : (start : List ℕ) (s : Answer B) → Late y start s → Late (f.write a ++ y) start (second (c a) (y ++ start) s)
    s_late start s (there e) = there (ap (second (c a) (y ++ start)) e)
    s_late start s (unbegun z e) = there (ap (second (c a) (y ++ start)) e ∙ ap (λ u. wrong (u ++ start)) z)
    s_late start s (past v e) = past (c a v) (ap (second (c a) (y ++ start)) e)

    h_is : (start : List ℕ) → Led start → h.read ((f.write a ++ y) ++ start) ≡ second (c a) (y ++ start) (g.read (y ++ start))
    h_is start z = ap h.read (append_assoc (f.write a) y start) ∙ reads-h (y ++ start) (holds start z)

    k_is : (start : List ℕ) → Led start → k ((f.write a ++ y) ++ start) ≡ second (c a) (y ++ start) (q (y ++ start))
    k_is start z =
        ap k (append_assoc (f.write a) y start)
        ∙ reads-k (y ++ start) (reads_too C f r n (f.write a ++ (y ++ start)) a (y ++ start) (holds start z))

    second_calls : Calls g q y → Calls h k (f.write a ++ y)
    second_calls d = record {
      begins = λ j v. rw (append_assoc (f.write a) y (N.write j)) (begins-h (y ++ N.write j) (d.begins j v));
      wrongs = λ start rest h e. h_is start h ∙ ap (second (c a) (y ++ start)) (d.wrongs start rest h e);
      others = λ start z e. rw (h_is start z) (s_late start (g.read (y ++ start)) (d.others start z e));
      late = λ start rest h e. rw (k_is start h) (s_late start (q (y ++ start)) (d.late start rest h e));
    }

  module _ {A B : Type 0} (C D : List ℕ → Type 0) (f : Format A) (r : Reader A) (g : Format B) (q : Reader B)
      (l : Exact 1 f) (m : Begins g []) (n : Numbered C f r) (o : Numbered D g q)
      (meets : (a : A) (y : List ℕ) → f.Valid a → D y → (start : List ℕ) → Led start → f.Follow a (y ++ start))
      (shut : (x : List ℕ) → C x → Shut g.read × Shut q) where
    abbrev sf : Format (A × B)
    sf = sequence f λ a. g

    abbrev on : Reader B → Answer A → Answer (A × B)
    on p s = first s λ a rest. second (λ b. (a, b)) rest (p rest)

    abbrev sr : Reader (A × B)
    sr t = on q (r t)

    abbrev Either : List ℕ → Type 0
    Either x = C x ⊎ After f D x

    ends_late : (x start : List ℕ) (v : A) (s : Answer B) → Late [] start s → Late {A = A × B} x start (second (λ b. (v, b)) start s)
    ends_late x start v s (there e) = there (ap (second (λ b. (v, b)) start) e)
    ends_late x start v s (unbegun z e) = there (ap (second (λ b. (v, b)) start) e)
    ends_late x start v s (past b e) = past (v, b) (ap (second (λ b. (v, b)) start) e)

    first_late : (p : Reader B) → Shut p → (x start : List ℕ) → Led start → (s : Answer A) → Late x start s → Late x start (on p s)
    first_late p w x start z s (there e) = there (ap (on p) e)
    first_late p w x start z s (unbegun y e) = unbegun y (ap (on p) e)
    first_late p w x start z s (past v e) = rw (ap (on p) e) (ends_late x start v (p start) (w start z))

    begins_after : (a : A) → f.Valid a → (x : List ℕ) → Begins g x → Begins sf (f.write a ++ x)
    begins_after a ok x b = record {
      says = (a, b.says);
      valid = (ok, b.valid);
      more = b.more;
      is = ap (λ k. f.write a ++ k) b.is ∙ sym (append_assoc (f.write a) x b.more);
    }

    s_calls : (x : List ℕ) → Either x → Calls sf sr x
    s_calls x (inl c) =
        let d = n.calls x c in
        record {
          begins = λ k ok. begins_more f sf (x ++ N.write k) (λ a v. rw (append-nil (f.write a)) at (begins_after a v [] m)) (d.begins k ok);
          wrongs = λ start rest h e. ap (on g.read) (d.wrongs start rest h e);
          others = λ start h e. first_late g.read (shut x c).0 x start h (f.read (x ++ start)) (d.others start h e);
          late = λ start rest h e. first_late q (shut x c).1 x start h (r (x ++ start)) (d.late start rest h e);
        }
    s_calls x (inr w) =
        rw w.3
        (second_calls C f r g q (λ a b. (a, b)) sf sr l n w.0 w.2 w.1 (meets w.0 w.1 w.2 w.4) (begins_after w.0 w.2)
        (λ rest e. ap (on g.read) e) (λ rest e. ap (on q) e) (o.calls w.1 w.4))

    second_like : (text : List ℕ) (a : A) (rest : List ℕ) → f.Valid a → text ≡ f.write a ++ rest → r text ≡ f.read text → f.read text ≡ value a rest
        → Like D g q rest → Like Either sf sr text
    second_like text a rest ok z e u (same w) = same (ap (on q) (e ∙ u) ∙ ap (second (λ b. (a, b)) rest) w ∙ ap (on g.read) (sym u))
    second_like text a rest ok z e u (moved y start end d w h p) =
        moved (f.write a ++ y) start end (inr (a, y, ok, refl, d)) (z ∙ ap (λ k. f.write a ++ k) w ∙ sym (append_assoc (f.write a) y start)) h p

    same_like : (text : List ℕ) (s : Answer A) → r text ≡ f.read text → f.read text ≡ s → Says f text s → Like Either sf sr text
    same_like text (value a rest) e u s = second_like text a rest s.1 s.0 e u (o.like rest)
    same_like text other e u s = same (ap (on q) (e ∙ u) ∙ ap (on g.read) (sym u))
    same_like text (wrong rest) e u s = same (ap (on q) (e ∙ u) ∙ ap (on g.read) (sym u))
    same_like text short e u s = same (ap (on q) (e ∙ u) ∙ ap (on g.read) (sym u))

    s_like : (text : List ℕ) → Like C f r text → Like Either sf sr text
    s_like text (same e) = same_like text (f.read text) e refl (l.lawful.says text)
    s_like text (moved x start rest c z h e) = moved x start rest (inl c) z h e

    pub sequence_numbered : Numbered (λ x. C x ⊎ After f D x) (sequence f λ a. g) (λ t. first (r t) λ a rest. second (λ b. (a, b)) rest (q rest))
    sequence_numbered = record { calls = s_calls; like = λ text. s_like text (n.like text) }

  -- the same where the first part has no numbers, and where the second has none
  module _ {A B : Type 0} (D : List ℕ → Type 0) (f : Format A) (g : Format B) (q : Reader B) (l : Exact 1 f) (m : Begins g []) (o : Numbered D g q)
      (meets : (a : A) (y : List ℕ) → f.Valid a → D y → (start : List ℕ) → Led start → f.Follow a (y ++ start)) where
    from_either : (x : List ℕ) → Nowhere x ⊎ After f D x → After f D x
    from_either x (inl c) = absurd c
    from_either x (inr w) = w

    pub after_numbered : Numbered (After f D) (sequence f λ a. g) (λ t. first (f.read t) λ a rest. second (λ b. (a, b)) rest (q rest))
    after_numbered =
        resaid (λ x. Nowhere x ⊎ After f D x) (After f D) (sequence f λ a. g) (λ t. first (f.read t) λ a rest. second (λ b. (a, b)) rest (q rest))
        from_either (λ x w. inr w)
        (sequence_numbered Nowhere D f f.read g q l m (plain_numbered f) o meets (λ x c. absurd c))

  module _ {A B : Type 0} (C : List ℕ → Type 0) (f : Format A) (r : Reader A) (g : Format B) (l : Exact 1 f) (m : Begins g []) (n : Numbered C f r) (shut : Shut g.read) where
    from_first : (x : List ℕ) → C x ⊎ After f Nowhere x → C x
    from_first x (inl c) = c
    from_first x (inr w) = absurd w.4

    pub first_numbered : Numbered C (sequence f λ a. g) (λ t. first (r t) λ a rest. second (λ b. (a, b)) rest (g.read rest))
    first_numbered =
        resaid (λ x. C x ⊎ After f Nowhere x) C (sequence f λ a. g) (λ t. first (r t) λ a rest. second (λ b. (a, b)) rest (g.read rest))
        from_first (λ x c. inl c)
        (sequence_numbered C Nowhere f r g g.read l m n (plain_numbered g) (λ a y ok d. absurd d) (λ x c. (shut, shut)))

  -- ZERO OR MORE
  module _ {A : Type 0} (C : List ℕ → Type 0) (f : Format A) (r : Reader A) (l : Exact 1 f) (n : Numbered C f r)
      (solid : (a : A) → f.Valid a → 1 ≤ length (f.write a))
      (again : (text : List ℕ) → run r (suc (length text)) text ≡ maybe [] text (r text) λ a rest. second (λ l. a ∷ l) rest (run r (suc (length rest)) rest))
      (meets : (a : A) (y : List ℕ) → f.Valid a → After (many f) C y → (start : List ℕ) → Led start → f.Follow a (y ++ start))
      (shut : (start : List ℕ) → Led start → (f.read start ≡ other) × (r start ≡ other)) where
    abbrev hf : Format (List A)
    hf = many f

    abbrev hr : Reader (List A)
    hr t = run r (suc (length t)) t

    abbrev Among : List ℕ → Type 0
    Among = After (many f) C

    abbrev goes : Reader (List A) → List ℕ → Answer A → Answer (List A)
    goes p text s = maybe [] text s λ a rest. second (λ l. a ∷ l) rest (p rest)

    f_step : (text : List ℕ) → hf.read text ≡ goes hf.read text (f.read text)
    f_step = step 1 f l.lawful solid

    -- no item begins with a digit, so the list ends there
    item_late : (p : Reader (List A)) → ((start : List ℕ) → Led start → p start ≡ value [] start) → (x start : List ℕ) → Led start → (s : Answer A) → Late x start s
        → Late x start (goes p (x ++ start) s)
    item_late p w x start z s (there e) = there (ap (goes p (x ++ start)) e)
    item_late p w x start z s (unbegun y e) = past [] (ap (goes p (x ++ start)) e ∙ ap (λ k. value [] (k ++ start)) y)
    item_late p w x start z s (past v e) = past (v ∷ []) (ap (goes p (x ++ start)) e ∙ ap (second (λ l. v ∷ l) start) (w start z))

    h_extends : (a : A) → f.Valid a → Begins hf (f.write a)
    h_extends a ok = record { says = a ∷ []; valid = (ok, tt); more = []; is = refl }

    this_calls : (x : List ℕ) → C x → Calls hf hr x
    this_calls x c =
        let d = n.calls x c in
        let ends-f : (start : List ℕ) → Led start → hf.read start ≡ value [] start = λ start z. f_step start ∙ ap (goes hf.read start) (shut start z).0 in
        let ends-r : (start : List ℕ) → Led start → hr start ≡ value [] start = λ start z. again start ∙ ap (goes hr start) (shut start z).1 in
        record {
          begins = λ k ok. begins_more f hf (x ++ N.write k) h_extends (d.begins k ok);
          wrongs = λ start rest h e. f_step (x ++ start) ∙ ap (goes hf.read (x ++ start)) (d.wrongs start rest h e);
          others = λ start h e. rw (f_step (x ++ start)) (item_late hf.read ends-f x start h (f.read (x ++ start)) (d.others start h e));
          late = λ start rest h e. rw (again (x ++ start)) (item_late hr ends-r x start h (r (x ++ start)) (d.late start rest h e));
        }

    h_after : (a : A) → f.Valid a → (x : List ℕ) → Begins hf x → Begins hf (f.write a ++ x)
    h_after a ok x b = record {
      says = a ∷ b.says;
      valid = (ok, b.valid);
      more = b.more;
      is = ap (λ k. f.write a ++ k) b.is ∙ sym (append_assoc (f.write a) x b.more);
    }

    h_calls : (v : List A) → All f.Valid v → (y : List ℕ) → C y → Calls hf hr (hf.write v ++ y)
    h_calls [] ok y c = this_calls y c
    h_calls (a ∷ v) ok y c =
        rw (append_assoc (f.write a) (hf.write v) y)
        (second_calls C f r hf hr (λ a b. a ∷ b) hf hr l n a ok.0 (hf.write v ++ y) (meets a (hf.write v ++ y) ok.0 (v, y, ok.1, refl, c)) (h_after a ok.0)
        (λ rest e. f_step (f.write a ++ rest) ∙ ap (goes hf.read (f.write a ++ rest)) e)
        (λ rest e. again (f.write a ++ rest) ∙ ap (goes hr (f.write a ++ rest)) e) (h_calls v ok.1 y c))

    more_like : (text : List ℕ) (a : A) (rest : List ℕ) → f.Valid a → text ≡ f.write a ++ rest → r text ≡ f.read text → f.read text ≡ value a rest
        → Like Among hf hr rest → Like Among hf hr text
    more_like text a rest ok z e u (same w) =
        same (again text ∙ ap (goes hr text) (e ∙ u) ∙ ap (second (λ l. a ∷ l) rest) w ∙ ap (goes hf.read text) (sym u) ∙ sym (f_step text))
    more_like text a rest ok z e u (moved y start end d w h p) =
        moved (f.write a ++ y) start end
        (a ∷ d.0, d.1, (ok, d.2), ap (λ k. f.write a ++ k) d.3 ∙ sym (append_assoc (f.write a) (hf.write d.0) d.1), d.4)
        (z ∙ ap (λ k. f.write a ++ k) w ∙ sym (append_assoc (f.write a) y start)) h p

    h_same : (text : List ℕ) (s : Answer A) → r text ≡ f.read text → f.read text ≡ s → Says f text s
        → ((rest : List ℕ) → length rest < length text → Like Among hf hr rest) → Like Among hf hr text
    h_same text (value a rest) e u s ih =
        more_like text a rest s.1 s.0 e u (ih rest (omega (arith, ap length s.0, length-append (f.write a) rest, solid a s.1)))
    h_same text other e u s ih = same (again text ∙ ap (goes hr text) (e ∙ u) ∙ ap (goes hf.read text) (sym u) ∙ sym (f_step text))
    h_same text (wrong rest) e u s ih = same (again text ∙ ap (goes hr text) (e ∙ u) ∙ ap (goes hf.read text) (sym u) ∙ sym (f_step text))
    h_same text short e u s ih = same (again text ∙ ap (goes hr text) (e ∙ u) ∙ ap (goes hf.read text) (sym u) ∙ sym (f_step text))

    h_like : (text : List ℕ) → Like C f r text → ((rest : List ℕ) → length rest < length text → Like Among hf hr rest) → Like Among hf hr text
    h_like text (same e) ih = h_same text (f.read text) e refl (l.lawful.says text) ih
    h_like text (moved x start rest c z h e) ih = moved x start rest ([], x, tt, refl, c) z h e

    like_upto : (k : ℕ) (text : List ℕ) → length text < k → Like Among hf hr text
    like_upto zero text p = absurd (omega arith)
    like_upto (suc k) text p = h_like text (n.like text) λ rest z. like_upto k rest (omega arith)

    pub many_numbered : Numbered (After (many f) C) (many f) (λ t. run r (suc (length t)) t)
    many_numbered = record {
      calls = λ x w. rw w.3 (h_calls w.0 w.2 w.1 w.4);
      like = λ text. like_upto (suc (length text)) text (omega arith);
    }

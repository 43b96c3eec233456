-- Zero or more of a format, read one by one: a loop only cites these.
use Prim.Native.Nat.{ℕ, ◌-◌, ◌≤◌, ◌<◌}
use mathlib.Core.List.{List, [], ◌∷◌, ◌++◌, append_assoc, append-nil}
use mathlib.Core.Path.{◌≡◌, refl, sym, ap, ◌∙◌}
use lib.ListN.{length, drop, length-drop, drop_of_length-le}
use lib.Seq.{drop-cons}
use native.Mathlib.Omega.{arith}
use Rattle.format.specs.Format.{Answer, value, other, wrong, short, Format, second, maybe, many}
use Rattle.format.specs.Located.{Located, found, wrong_at, short_here, located, locate, on_found}
use Rattle.format.proofs.Many.{step}
use Rattle.format.proofs.Delimited.{Delimited}
use Rattle.format.proofs.Open.{Open, delimited_open}
use Rattle.format.proofs.At.{Strays, here, later, firm_strays, Got, got, cut_reads}

module _ {A : Type 0} (w : ℕ) (f : Format A) (d : Open w f) (s : List ℕ) (i : ℕ) where
  pub strays : (p : ℕ) → locate f s i ≡ wrong_at p → Strays f s i p
  strays = firm_strays f d.firm s i

  abbrev all : Located (List A)
  all = locate (many f) s i

  abbrev again : Answer A → Answer (List A)
  again r = maybe [] (drop i s) r λ a rest. second (λ l. a ∷ l) rest ((many f).read rest)

  steps : (r : Answer A) → f.read (drop i s) ≡ r → all ≡ located (length s) i (again r)
  unfolding locate
  steps r e = ap (located (length s) i) (step w f d.lawful d.solid (drop i s) ∙ ap again e)

  one_go : (a : A) (rest : List ℕ) (r : Answer (List A)) → located (length s) i (second (λ l. a ∷ l) rest r) ≡ on_found (λ l. a ∷ l) (located (length s) (length s - length rest) r)
  one_go a rest (value l left) = refl
  one_go a rest other = refl
  one_go a rest (wrong left) = refl
  one_go a rest short = refl

  -- one more
  pub many_on : i ≤ length s → (a : A) (next : ℕ) → locate f s i ≡ found a next → all ≡ on_found (λ l. a ∷ l) (locate (many f) s next)
  unfolding locate
  many_on h a next e =
      let g = got w f d.lawful s i h a next e in
      let k : length s - length (drop next s) ≡ next = omega (arith, length-drop next s, g.room) in
      steps (value a (drop next s)) g.reads ∙ one_go a (drop next s) ((many f).read (drop next s))
      ∙ ap (λ j. on_found (λ l. a ∷ l) (located (length s) j ((many f).read (drop next s)))) k

  -- no more
  pub many_done : i ≤ length s → locate f s i ≡ wrong_at i → all ≡ found [] i
  many_done h e = go (strays i e)
    where
      go : Strays f s i i → all ≡ found [] i
      go (here z o) = steps other o ∙ ap (found []) (omega (arith, length-drop i s))
      go (later rest z k o) = absurd (omega arith)

  pub many_end : length s ≡ i → all ≡ found [] i
  many_end e =
      let k : length s ≤ i = omega arith in
      let z : drop i s ≡ [] = drop_of_length-le s k in
      steps short (ap f.read z ∙ d.empty) ∙ ap (λ t. located (length s) i (maybe {A = A} [] t short λ a rest. second (λ l. a ∷ l) rest ((many f).read rest))) z ∙ ap (found []) (omega arith)

  pub many_bad : (p : ℕ) → locate f s i ≡ wrong_at p → (p ≡ i → ⊥) → all ≡ wrong_at p
  many_bad p e n = go (strays p e)
    where
      go : Strays f s i p → all ≡ wrong_at p
      go (here z o) = absurd (n z)
      go (later rest z k o) = steps (wrong rest) o ∙ ap wrong_at (sym z)

  pub many_cut : i < length s → locate f s i ≡ short_here → all ≡ short_here
  many_cut h e =
      let z = drop-cons s i 0 h in
      steps short (cut_reads f s i e) ∙ ap (λ t. located (length s) i (maybe {A = A} [] t short λ a rest. second (λ l. a ∷ l) rest ((many f).read rest))) z

-- what was read before, and what is found of the rest
abbrev pub behind : {A : Type 0} → List A → Located (List A) → Located (List A)
behind done = on_found (λ l. done ++ l)

behind_nil : {A : Type 0} (r : Located (List A)) → r ≡ behind [] r
behind_nil (found l i) = refl
behind_nil (wrong_at p) = refl
behind_nil short_here = refl

behind_one : {A : Type 0} (done : List A) (a : A) (r : Located (List A)) → behind done (on_found (λ l. a ∷ l) r) ≡ behind (done ++ (a ∷ [])) r
behind_one done a (found l i) = ap (λ m. found m i) (sym (append_assoc done (a ∷ []) l))
behind_one done a (wrong_at p) = refl
behind_one done a short_here = refl

-- What a loop knows: these were read up to i, and what is left leads to the same whole.
pub record Walk {A : Type 0} (f : Format A) (s : List ℕ) (at i : ℕ) (done : List A) : Type 0 where
  pub inside : i ≤ length s
  pub leads : locate (many f) s at ≡ behind done (locate (many f) s i)

pub walk_start : {A : Type 0} (f : Format A) (s : List ℕ) (at : ℕ) → at ≤ length s → Walk f s at at []
walk_start f s at h = record { inside = h; leads = behind_nil (locate (many f) s at) }

-- one law for each way on or out
module _ {A : Type 0} (w : ℕ) (f : Format A) (d : Open w f) (s : List ℕ) (at i : ℕ) (done : List A) (k : Walk f s at i done) where
  pub open_got : (a : A) (next : ℕ) → locate f s i ≡ found a next → Got f s i a next
  open_got = got w f d.lawful s i k.inside

  pub open_on : (a : A) (next : ℕ) → locate f s i ≡ found a next → Walk f s at next (done ++ (a ∷ []))
  open_on a next e = record {
    inside = (open_got a next e).room;
    leads = k.leads ∙ ap (behind done) (many_on w f d s i k.inside a next e) ∙ behind_one done a (locate (many f) s next);
  }

  last : locate (many f) s i ≡ found [] i → locate (many f) s at ≡ found done i
  last e = k.leads ∙ ap (behind done) e ∙ ap (λ l. found l i) (append-nil done)

  pub open_stop : locate f s i ≡ wrong_at i → locate (many f) s at ≡ found done i
  open_stop e = last (many_done w f d s i k.inside e)

  pub open_end : length s ≤ i → locate (many f) s at ≡ found done i
  open_end h = last (many_end w f d s i (let x = k.inside in omega arith))

  pub open_bad : (p : ℕ) → locate f s i ≡ wrong_at p → (p ≡ i → ⊥) → locate (many f) s at ≡ wrong_at p
  open_bad p e n = k.leads ∙ ap (behind done) (many_bad w f d s i p e n)

  pub open_cut : i < length s → locate f s i ≡ short_here → locate (many f) s at ≡ short_here
  open_cut h e = k.leads ∙ ap (behind done) (many_cut w f d s i h e)

-- the same of a delimited format
module _ {A : Type 0} (w : ℕ) (f : Format A) (d : Delimited w f) (s : List ℕ) (at i : ℕ) (done : List A) (k : Walk f s at i done) where
  pub walk_on : (a : A) (next : ℕ) → locate f s i ≡ found a next → Walk f s at next (done ++ (a ∷ []))
  walk_on = open_on w f (delimited_open w f d) s at i done k

  pub walk_stop : locate f s i ≡ wrong_at i → locate (many f) s at ≡ found done i
  walk_stop = open_stop w f (delimited_open w f d) s at i done k

  pub walk_end : length s ≤ i → locate (many f) s at ≡ found done i
  walk_end = open_end w f (delimited_open w f d) s at i done k

  pub walk_bad : (p : ℕ) → locate f s i ≡ wrong_at p → (p ≡ i → ⊥) → locate (many f) s at ≡ wrong_at p
  walk_bad = open_bad w f (delimited_open w f d) s at i done k

  pub walk_cut : i < length s → locate f s i ≡ short_here → locate (many f) s at ≡ short_here
  walk_cut = open_cut w f (delimited_open w f d) s at i done k

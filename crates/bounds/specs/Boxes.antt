-- Document 01, "Boxes, shifting, centring": the boxes of three groups of symbols.
use Rattle.std.specs.Prelude.{ℕ, ◌+◌, ◌-◌, ◌*◌, min, max, Bool, true, false, ◌&&◌, ◌||◌, List, [], ◌∷◌, map, leb, get_or}
use Rattle.format.specs.Format.{keep}
use Rattle.charset.specs.Tokens.{parts_of}
use Rattle.grammar.specs.Sign.{Spatial}
use Rattle.bounds.specs.declared.groups.Box.{Box}
use Rattle.bounds.specs.declared.groups.Groups.{Groups}

-- The size list has two bytes for each code from 1: width, then height.
abbrev pub width_of : List ℕ → ℕ → ℕ
width_of sizes code = get_or sizes (2 * (code - 1)) 0

abbrev pub height_of : List ℕ → ℕ → ℕ
height_of sizes code = get_or sizes (2 * (code - 1) + 1) 0

-- A box has the least x and y of its symbols and the greatest x + width and y + height: here, of one symbol.
abbrev pub symbol_box : List ℕ → Spatial → Box
symbol_box sizes s = record {
  left = s.x;
  top = s.y;
  right = s.x + width_of sizes s.code;
  bottom = s.y + height_of sizes s.code;
}

-- a box that grows to take in the next
abbrev pub grown : Box → Box → Box
grown a b = record {
  left = min a.left b.left;
  top = min a.top b.top;
  right = max a.right b.right;
  bottom = max a.bottom b.bottom;
}

unfoldable pub grown_all : Box → List Box → Box
grown_all a [] = a
grown_all a (b ∷ l) = grown_all (grown a b) l

abbrev pub zero_box : Box
zero_box = record { left = 0; top = 0; right = 0; bottom = 0 }

-- A group: whether it has a symbol, and its box. It starts from one and grows to take in the next; without any it is a box of zeros.
pub record Group : Type 0 where
  pub present : Bool
  pub box : Box

abbrev pub group_of : List Box → Group
group_of [] = record { present = false; box = zero_box }
group_of (b ∷ l) = record { present = true; box = grown_all b l }

-- Head is base 2ff to 36c, trunk 36d to 375 (document 01, "Symbols and numbers").
abbrev pub base_in : ℕ → ℕ → ℕ → Bool
base_in first last code = leb first (parts_of code).0 && leb (parts_of code).0 last

abbrev pub is_head : ℕ → Bool
is_head = base_in 0x2ff 0x36c

abbrev pub is_trunk : ℕ → Bool
is_trunk = base_in 0x36d 0x375

-- the group of those symbols whose code is picked
abbrev pub group_in : (ℕ → Bool) → List ℕ → List Spatial → Group
group_in picks sizes l = group_of (map (symbol_box sizes) (keep (λ s. picks s.code) l))

abbrev pub three_groups : Group → Group → Group → Groups
three_groups a b c = record {
  boxes = a.box ∷ b.box ∷ c.box ∷ [];
  present = a.present ∷ b.present ∷ c.present ∷ [];
}

abbrev pub no_groups : Groups
no_groups = three_groups (group_of []) (group_of []) (group_of [])

-- head, head with trunk, all
unfoldable pub groups_of : List ℕ → List Spatial → Groups
groups_of sizes l = three_groups (group_in is_head sizes l) (group_in (λ code. is_head code || is_trunk code) sizes l) (group_in (λ code. true) sizes l)

-- A tree of regions in groups: which cells it shows, and which groups it uses.
use Rattle.std.specs.Prelude.{◌≡◌, ℕ, zero, suc, ◌+◌, ◌-◌, ◌*◌, ◌/◌, ◌%◌, ◌≤◌, min, ⊤, Bool, true, false, if◌then◌else◌, Option, Some, None, List, [], length, replicate, ◌==◌, nat_le, nat_lt, slice_index_or}
use Rattle.block.specs.declared.cells.Cell.{Cell}
use Rattle.octree.specs.declared.cells.Child.{Child}
use Rattle.octree.specs.declared.cells.Child.TheVariants.{Empty, Solid, Split}
use Rattle.octree.specs.declared.cells.Group.{Group}
use Rattle.octree.specs.declared.cells.GroupId.{GroupId}
use Rattle.octree.specs.declared.store.Store.{Store}
use Rattle.octree.specs.Regions.{width, level_of, start_of, sum8, needed}

-- ---- which cells it shows

-- what is read where there is no group
abbrev pub no_group : Group
no_group = record { children = [] }

-- the eight children of a region, and the child k
abbrev pub children_of : List Group → Child → List Child
children_of gs Empty = replicate 8 Empty
children_of gs Solid = replicate 8 Solid
children_of gs (Split g) = (slice_index_or gs g.index no_group).children

abbrev pub child_at : List Group → Child → ℕ → Child
child_at gs r k = slice_index_or (children_of gs r) k Empty

-- 1 in the upper half along an axis, else 0
abbrev pub upper : ℕ → ℕ → ℕ
upper h x = if nat_lt x h then 0 else 1

-- the child that a cell lies in, of a region whose children have h cells along each axis
abbrev pub which_child : ℕ → Cell → ℕ
which_child h c = upper h c.x + 2 * upper h c.y + 4 * upper h c.z

-- the cell c, counted from a on
abbrev pub minus : Cell → Cell → Cell
minus c a = record { x = c.x - a.x; y = c.y - a.y; z = c.z - a.z }

abbrev pub is_solid : Child → Bool
is_solid Empty = false
is_solid Solid = true
is_solid (Split g) = false

-- the cell c of a region of level n is solid
abbrev pub solid_at : List Group → ℕ → Child → Cell → Bool
solid_at gs zero r c = is_solid r
solid_at gs (suc n) r c = solid_at gs n (child_at gs r (which_child (width n) c)) (minus c (start_of (width n) (which_child (width n) c)))

-- the cell with the number k, of a box that has n cells along each axis
abbrev pub cell_of : ℕ → ℕ → Cell
cell_of n k = record { x = k % n; y = k / n % n; z = k / (n * n) }

-- the drawing of the whole box, by cell number
unfoldable pub shown : ℕ → List Group → Child → ℕ → Bool
shown n gs r k = if nat_lt k (n * n * n) then solid_at gs (level_of n) r (cell_of n k) else false

-- ---- which groups it uses

abbrev pub one : Bool → ℕ
one b = if b then 1 else 0

-- 1 where a region has a group, and 1 where that is the group i
abbrev pub has_group : Child → ℕ
has_group Empty = 0
has_group Solid = 0
has_group (Split g) = 1

abbrev pub has : Child → ℕ → ℕ
has Empty i = 0
has Solid i = 0
has (Split g) i = one (g.index == i)

-- how many groups a region of level n uses, itself and in its children, and how often it uses the group i
abbrev pub group_count : List Group → ℕ → Child → ℕ
group_count gs zero r = has_group r
group_count gs (suc n) r = has_group r + sum8 (λ k. group_count gs n (child_at gs r k))

abbrev pub uses : List Group → ℕ → Child → ℕ → ℕ
uses gs zero r i = has r i
uses gs (suc n) r i = has r i + sum8 (λ k. uses gs n (child_at gs r k) i)

-- the group that a child names, if it names one
abbrev pub group_of : Child → Option GroupId
group_of Empty = None
group_of Solid = None
group_of (Split g) = Some g

-- the group that was freed before the freed group g, if there is one: g names it in its first child
abbrev pub freed_before : List Group → GroupId → Option GroupId
freed_before gs g = group_of (slice_index_or (slice_index_or gs g.index no_group).children 0 Empty)

-- the list of freed groups from l on has m groups
abbrev pub FreedList : List Group → ℕ → Option GroupId → Type 0
FreedList gs zero None = ⊤
FreedList gs zero (Some g) = ⊥
FreedList gs (suc m) None = ⊥
FreedList gs (suc m) (Some g) = FreedList gs m (freed_before gs g)

-- how often the group i is among the m freed ones, of which l was freed last
abbrev pub freed_at : List Group → ℕ → Option GroupId → ℕ → ℕ
freed_at gs zero l i = 0
freed_at gs (suc m) None i = 0
freed_at gs (suc m) (Some g) i = one (g.index == i) + freed_at gs m (freed_before gs g) i

-- how often the group i is unused: freed, or at the mark or above it
abbrev pub idle : Store → ℕ → ℕ
idle s i = freed_at s.groups.now s.freed s.last i + one (nat_le s.mark i)

-- how many groups can be named: the mark is a number of 32 bits
abbrev pub capacity : List Group → ℕ
capacity gs = min (length gs) 4294967295

-- the unused groups can be counted: the mark lies within those that can be named, and the list of the freed ones below it is as long as told
pub record Counted (s : Store) : Type 0 where
  pub marked : s.mark ≤ capacity s.groups.now
  pub below : s.freed ≤ s.mark
  pub listed : FreedList s.groups.now s.freed s.last

-- a tree for a box that has n cells along each axis: every group is in it once or unused once, and there are as many in it as its drawing needs.
pub record Whole (n : ℕ) (s : Store) (r : Child) : Type 0 where
  pub exact : group_count s.groups.now (level_of n) r ≡ needed n (shown n s.groups.now r)
  pub once : (i : ℕ) → uses s.groups.now (level_of n) r i + idle s i ≡ 1
  pub count : group_count s.groups.now (level_of n) r + s.freed ≡ s.mark
  pub counted : Counted s

-- Words of the code on the way: what the functions below the octree's own ask and promise. A reader of the public contracts needs none of
-- them. Regions are seen from where they begin, so that each cell of a region of level n has places below width n.
use Rattle.std.specs.Prelude.{◌≡◌, ℕ, ◌+◌, ◌-◌, ◌<◌, ◌≤◌, min, Bool, true, false, if◌then◌else◌, not, ◌&&◌, ◌⊎◌, List, length, ◌==◌, nat_le, nat_lt, slice_index_or}
use Rattle.block.specs.declared.cells.Cell.{Cell}
use Rattle.octree.specs.declared.cells.Change.{Change}
use Rattle.octree.specs.declared.cells.Child.{Child}
use Rattle.octree.specs.declared.cells.Child.TheVariants.{Empty, Solid, Split}
use Rattle.octree.specs.declared.cells.Group.{Group}
use Rattle.octree.specs.declared.cells.GroupId.{GroupId}
use Rattle.octree.specs.declared.cells.Kind.{Kind}
use Rattle.octree.specs.declared.cells.Kind.TheVariants.{AllEmpty, AllSolid, Mixed}
use Rattle.octree.specs.declared.cells.Part.{Part}
use Rattle.block.specs.declared.cells.Run.{Run}
use Rattle.octree.specs.declared.store.Store.{Store}
use Rattle.octree.specs.Regions.{width, origin, start_of, all_are, need_of}
use Rattle.octree.specs.Trees.{no_group, child_at, which_child, solid_at, one, has_group, has, group_count, uses, idle, capacity, Counted}

-- ---- runs

-- the cell lies in a region that has h cells along each axis
abbrev pub Inside : ℕ → Cell → Type 0
Inside h c = (c.x < h) × (c.y < h) × (c.z < h)

-- the cell is one of the run's
abbrev pub in_run : Run → Cell → Bool
in_run w c = c.y == w.y && (c.z == w.z && (nat_le w.start c.x && nat_lt c.x w.end))

-- the drawing with the cells of a run changed
abbrev pub flipped : Run → (Cell → Bool) → Cell → Bool
flipped w p c = if in_run w c then not (p c) else p c

-- the run lies in a region of level n
pub record Lies (n : ℕ) (w : Run) : Type 0 where
  pub short : w.end ≤ width n
  pub in_y : w.y < width n
  pub in_z : w.z < width n

-- the part of a run in the child k, counted from where that begins
abbrev pub run_in : ℕ → Run → ℕ → Run
run_in h w k = record { y = w.y - (start_of h k).y; z = w.z - (start_of h k).z; start = w.start - (start_of h k).x; end = min (w.end - (start_of h k).x) h }

-- the child that the cell x of the run's row lies in
abbrev pub row_child : ℕ → Run → ℕ → ℕ
row_child h w x = which_child h (record { x = x; y = w.y; z = w.z })

-- the child that the cell x of the run's row lies in, with the part of the run in it
pub record IsPartAt (h : ℕ) (w : Run) (x : ℕ) (p : Part) : Type 0 where
  pub child : p.child ≡ row_child h w x
  pub run : p.run ≡ run_in h w (row_child h w x)

-- ---- what a region holds

abbrev pub all_empty : Kind → Bool
all_empty AllEmpty = true
all_empty AllSolid = false
all_empty Mixed = false

abbrev pub all_solid : Kind → Bool
all_solid AllEmpty = false
all_solid AllSolid = true
all_solid Mixed = false

abbrev pub kind_of : Child → Kind
kind_of Empty = AllEmpty
kind_of Solid = AllSolid
kind_of (Split g) = Mixed

-- the other cell
abbrev pub turned_over : Child → Child
turned_over Empty = Solid
turned_over Solid = Empty
turned_over (Split g) = Empty

-- what two regions hold together, and what eight do
abbrev pub both : Kind → Kind → Kind
both AllEmpty AllEmpty = AllEmpty
both AllEmpty AllSolid = Mixed
both AllEmpty Mixed = Mixed
both AllSolid AllEmpty = Mixed
both AllSolid AllSolid = AllSolid
both AllSolid Mixed = Mixed
both Mixed b = Mixed

abbrev pub blend : (ℕ → Kind) → Kind
blend f = both (f 0) (both (f 1) (both (f 2) (both (f 3) (both (f 4) (both (f 5) (both (f 6) (f 7)))))))

-- how many groups a region of this kind needs for itself
abbrev pub wants : Kind → ℕ
wants AllEmpty = 0
wants AllSolid = 0
wants Mixed = 1

-- the kind tells of a drawing of a region of level n whether all its cells are empty, and whether all are solid
pub record Shows (k : Kind) (n : ℕ) (p : Cell → Bool) : Type 0 where
  pub empty : all_are false n p origin ≡ all_empty k
  pub full : all_are true n p origin ≡ all_solid k

-- ---- a region in the groups

-- the region uses as many groups as its drawing needs
abbrev pub Tight : List Group → ℕ → Child → Type 0
Tight gs n r = group_count gs n r ≡ need_of n (solid_at gs n r) origin

-- the region's group is there, if it has one
abbrev pub There : List Group → Child → Type 0
There gs Empty = Unit {0}
There gs Solid = Unit {0}
There gs (Split g) = g.index < length gs

-- a region that can be read
pub record Readable (gs : List Group) (n : ℕ) (r : Child) : Type 0 where
  pub tight : Tight gs n r
  pub there : (i : ℕ) → length gs ≤ i → uses gs n r i ≡ 0

-- what changing a run does to a region
pub record Planned (gs : List Group) (n : ℕ) (r : Child) (w : Run) (q : Change) : Type 0 where
  pub shows : Shows q.kind n (flipped w (solid_at gs n r))
  pub needs : need_of n (flipped w (solid_at gs n r)) origin + q.before ≡ need_of n (solid_at gs n r) origin + q.after
  pub few_before : q.before < width n + width n
  pub few_after : q.after < width n + width n

-- ---- unused groups

-- how many groups are unused
abbrev pub left : Store → ℕ
left s = s.freed + (capacity s.groups.now - s.mark)

-- a region r and the unused groups share none, and those can be counted
pub record Apart (s : Store) (r : Child) : Type 0 where
  pub once : (i : ℕ) → has r i + idle s i ≤ 1
  pub few : has_group r + left s ≤ capacity s.groups.now
  pub counted : Counted s

-- the region r has the group g: its own, or else one of the unused, of which those of s' are left
pub record Taken (s : Store) (r : Child) (g : GroupId) (s' : Store) : Type 0 where
  pub same : s'.groups ≡ s.groups
  pub within : g.index < length s.groups.now
  pub spent : (i : ℕ) → has r i + idle s i ≡ one (g.index == i) + idle s' i
  pub fewer : has_group r + left s ≡ 1 + left s'
  pub counted : Counted s'

-- the group of the region r, if it has one, is now among the unused
pub record Freed (s : Store) (r : Child) (s' : Store) : Type 0 where
  pub lent : s'.groups.ghost_name ≡ s.groups.ghost_name
  pub long : length s'.groups.now ≡ length s.groups.now
  pub kept : (i : ℕ) → has r i ≡ 0 → slice_index_or s'.groups.now i no_group ≡ slice_index_or s.groups.now i no_group
  pub back : (i : ℕ) → idle s' i ≡ has r i + idle s i
  pub more : left s' ≡ has_group r + left s
  pub counted : Counted s'

-- ---- one region changes

-- the region r has become r', with the eight children cs: what it needs it has taken from the unused groups, what it left it has given to
-- them, and no other group has changed
pub record Settled (s : Store) (r : Child) (cs : List Child) (s' : Store) (r' : Child) : Type 0 where
  pub lent : s'.groups.ghost_name ≡ s.groups.ghost_name
  pub long : length s'.groups.now ≡ length s.groups.now
  pub kind : kind_of r' ≡ blend (λ k. kind_of (slice_index_or cs k Empty))
  pub holds : (k : ℕ) → k < 8 → child_at s'.groups.now r' k ≡ slice_index_or cs k Empty
  pub shared : (i : ℕ) → has r' i + idle s' i ≡ has r i + idle s i
  pub total : has_group r' + left s' ≡ has_group r + left s
  pub kept : (i : ℕ) → has r i + idle s i ≡ 0 → slice_index_or s'.groups.now i no_group ≡ slice_index_or s.groups.now i no_group
  pub counted : Counted s'

-- a region in which a run can be changed: no group is in it twice, or in it and unused, and the unused ones suffice
pub record Ready (s : Store) (n : ℕ) (r : Child) (w : Run) : Type 0 where
  pub tight : Tight s.groups.now n r
  pub apart : (i : ℕ) → uses s.groups.now n r i + idle s i ≤ 1
  pub few : group_count s.groups.now n r + left s ≤ capacity s.groups.now
  pub counted : Counted s
  pub lies : Lies n w
  pub fits : need_of n (flipped w (solid_at s.groups.now n r)) origin ≤ group_count s.groups.now n r + left s

-- the region r of level n has become r', which shows p
pub record Moved (s : Store) (n : ℕ) (r : Child) (p : Cell → Bool) (s' : Store) (r' : Child) : Type 0 where
  pub lent : s'.groups.ghost_name ≡ s.groups.ghost_name
  pub long : length s'.groups.now ≡ length s.groups.now
  pub drawn : (c : Cell) → Inside (width n) c → solid_at s'.groups.now n r' c ≡ p c
  pub tight : Tight s'.groups.now n r'
  pub shared : (i : ℕ) → uses s'.groups.now n r' i + idle s' i ≡ uses s.groups.now n r i + idle s i
  pub total : group_count s'.groups.now n r' + left s' ≡ group_count s.groups.now n r + left s
  pub kept : (i : ℕ) → uses s.groups.now n r i + idle s i ≡ 0 → slice_index_or s'.groups.now i no_group ≡ slice_index_or s.groups.now i no_group
  pub counted : Counted s'

-- the two parts of a run, the lower one and the higher one
abbrev pub Halves : ℕ → Run → Part → Part → Type 0
Halves h w low high = IsPartAt h w 0 low × IsPartAt h w h high

-- the parts in the order in which they are to change: that whose need grows less comes first
pub record Ordered (gs : List Group) (n : ℕ) (cs : List Child) (w : Run) (first second : Part) : Type 0 where
  pub halves : Halves (width n) w first second ⊎ Halves (width n) w second first
  pub order : need_of n (flipped first.run (solid_at gs n (slice_index_or cs first.child Empty))) origin + need_of n (solid_at gs n (slice_index_or cs second.child Empty)) origin ≤ need_of n (flipped second.run (solid_at gs n (slice_index_or cs second.child Empty))) origin + need_of n (solid_at gs n (slice_index_or cs first.child Empty)) origin

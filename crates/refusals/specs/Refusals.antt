-- What each refusal tells: its number, its word, the layer that it comes from and the place at fault, a line or an entry counted from 1,
-- else 0. A leaky part tells an odd side as well.
use Rattle.std.specs.Prelude.{ℕ, List, Some, None, codes, Option}
use Rattle.geometry.specs.declared.mesh.Side.{Side}
use Rattle.refusals.specs.declared.Layer.{Layer}
use Rattle.refusals.specs.declared.Layer.TheVariants.{Text, Shape, Block, Job}
use Rattle.refusals.specs.declared.Refusal.{Refusal}
use Rattle.refusals.specs.declared.Refusal.TheVariants.{OffBox, OddSide, ShortBoard, MixedSides, FullSheet, Bare, Overlong, ShortShelf, Hole, WildPoint, Leaky, NoSand, StrayLine, BadNumber, FullTray, ShortList}

abbrev pub number : Refusal → ℕ
number OffBox = 1
number (OddSide v) = 2
number ShortBoard = 3
number MixedSides = 4
number FullSheet = 5
number Bare = 6
number Overlong = 7
number ShortShelf = 8
number (Hole v) = 9
number (WildPoint v) = 10
number (Leaky v) = 11
number NoSand = 12
number (StrayLine v) = 13
number (BadNumber v) = 14
number (FullTray v) = 15
number ShortList = 16

abbrev pub word : Refusal → List ℕ
word OffBox = codes "off the box"
word (OddSide v) = codes "odd side"
word ShortBoard = codes "short board"
word MixedSides = codes "mixed sides"
word FullSheet = codes "full sheet"
word Bare = codes "bare"
word Overlong = codes "overlong"
word ShortShelf = codes "short shelf"
word (Hole v) = codes "hole"
word (WildPoint v) = codes "wild point"
word (Leaky v) = codes "leaky"
word NoSand = codes "no sand"
word (StrayLine v) = codes "stray line"
word (BadNumber v) = codes "bad number"
word (FullTray v) = codes "full tray"
word ShortList = codes "short list"

abbrev pub layer : Refusal → Layer
layer OffBox = Block
layer (OddSide (Some line)) = Text
layer (OddSide None) = Job
layer ShortBoard = Job
layer MixedSides = Job
layer FullSheet = Job
layer Bare = Job
layer Overlong = Job
layer ShortShelf = Job
layer (Hole v) = Shape
layer (WildPoint v) = Shape
layer (Leaky v) = Job
layer NoSand = Block
layer (StrayLine v) = Text
layer (BadNumber v) = Text
layer (FullTray v) = Text
layer ShortList = Job

abbrev pub place : Refusal → ℕ
place OffBox = 0
place (OddSide (Some line)) = line
place (OddSide None) = 0
place ShortBoard = 0
place MixedSides = 0
place FullSheet = 0
place Bare = 0
place Overlong = 0
place ShortShelf = 0
place (Hole entry) = entry
place (WildPoint entry) = entry
place (Leaky v) = 0
place NoSand = 0
place (StrayLine line) = line
place (BadNumber line) = line
place (FullTray line) = line
place ShortList = 0

abbrev pub odd_side : Refusal → Option Side
odd_side OffBox = None
odd_side (OddSide v) = None
odd_side ShortBoard = None
odd_side MixedSides = None
odd_side FullSheet = None
odd_side Bare = None
odd_side Overlong = None
odd_side ShortShelf = None
odd_side (Hole v) = None
odd_side (WildPoint v) = None
odd_side (Leaky side) = Some side
odd_side NoSand = None
odd_side (StrayLine v) = None
odd_side (BadNumber v) = None
odd_side (FullTray v) = None
odd_side ShortList = None

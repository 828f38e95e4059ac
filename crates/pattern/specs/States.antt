-- Which kind of line may come in which state, and where it leads.
use Rattle.std.specs.Prelude.{Some, None, Option}
use Rattle.pattern.specs.declared.state.State.{State}
use Rattle.pattern.specs.declared.state.State.TheVariants.{Start, Ready, Points, Faces}
use Rattle.pattern.specs.declared.state.Kind.{Kind}
use Rattle.pattern.specs.declared.state.Kind.TheVariants.{Side, Part, Point, Face}

-- first a side line, then for each part a part line, its points and its faces
abbrev pub next : State → Kind → Option State
next Start Side = Some Ready
next Start Part = None
next Start Point = None
next Start Face = None
next Ready Side = None
next Ready Part = Some Points
next Ready Point = None
next Ready Face = None
next Points Side = None
next Points Part = None
next Points Point = Some Points
next Points Face = Some Faces
next Faces Side = None
next Faces Part = None
next Faces Point = None
next Faces Face = Some Faces

use Rattle.std.proofs.Common.{◌≡◌, ◌*◌, ◌≤◌, take}
use Rattle.sheet.specs.Sheets.{total}
use Rattle.sheet.proofs.lines.edit.triangles_of.Given as goal

-- a line adds at most 2³² − 1
abbrev pub invariant-loop-line : goal.invariant-loop-line
invariant-loop-line l = (l.sum ≤ 4294967295 * l.line-index) × (l.sum ≡ total (take l.line-index l.lines))

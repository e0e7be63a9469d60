-- What a store in memory keeps.
-- (Definitions of this project.)
use Rattle.pw_model.specs.Shelf.{ShelfContent}
use Rattle.pw_shelf.specs.declared.kept.Kept.{Kept}
use Rattle.pw_shelf.specs.Standing.{point_now, point_then, records_now, records_then, start_now, start_then, total_now, total_then}

-- what is kept now
abbrev pub content_now : Kept → ShelfContent
content_now k = record {
  records = records_now k.records;
  point = point_now k.points.table;
  start = start_now k.starts.table;
  total = total_now k.totals.table;
}

-- what was kept when the upload began
abbrev pub content_then : Kept → ShelfContent
content_then k = record {
  records = records_then k.records;
  point = point_then k.points.table;
  start = start_then k.starts.table;
  total = total_then k.totals.table;
}

use Rattle.std.proofs.Common.{◌≡◌, ◌++◌, drop, map}
use Rattle.trips_listing_text.specs.Scalars.{all_names, names_of, names_in_section}
use Rattle.trips_listing_text.proofs.scalars.+names.Given as goal

-- the names so far, and those of the statements to come
abbrev pub invariant-put_all-loop-s : goal.invariant-put_all-loop-s
invariant-put_all-loop-s l =
    l.names ++ all_names (map names_of (drop l.s-index l.all)) ≡ l.fn.names ++ all_names (map names_of l.all)

-- the names so far, and those of the sections to come
abbrev pub invariant-put_sections-loop-section : goal.invariant-put_sections-loop-section
invariant-put_sections-loop-section l =
    l.names ++ all_names (map names_in_section (drop l.section-index l.sections))
    ≡ l.fn.names ++ all_names (map names_in_section l.sections)

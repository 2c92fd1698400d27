-- What stands in a file, list by list, as the code keeps it.
use Rattle.std.specs.Prelude.{◌≡◌, map}
use Rattle.std.specs.List.{flat_map}
use Rattle.ydeclarations.specs.declared.outline.Listed.{Listed}
use Rattle.ydeclarations.specs.declared.outline.Started.{Started}
use Rattle.ydeclarations.specs.declared.outline.Outline.{Outline}
use Rattle.ysyntax.specs.Tree.{Identifier, Tree}
use Rattle.ysyntax.specs.TreeViews.{digits_view, occurrence_view, name_view}
use Rattle.ysymbols.specs.Sources.{option_view}
use Rattle.ydeclarations.specs.Elaboration.{Listing, identifiers_of, lefts, listings, precs, starts}
use Rattle.ydeclarations.specs.Elaboration.{types_of}
use Rattle.ydeclarations.specs.Elaboration.{uses}

abbrev pub listed_view : Listed → Listing
listed_view l = record {
  gives = l.gives;
  who = occurrence_view l.who;
  digits = option_view digits_view l.digits;
}

abbrev pub start_view : Started → Identifier
start_view s = occurrence_view s.who

-- the lists are those of the tree
pub record Outlines (o : Outline) (t : Tree) : Type 0 where
  pub listed : map listed_view o.listed.items ≡ listings t
  pub starts : map start_view o.starts.items ≡ starts t
  pub typed : map name_view o.typed.items ≡ types_of t
  pub declared : map occurrence_view o.declared.items ≡ flat_map identifiers_of t.definitions
  pub lefts : map name_view o.lefts.items ≡ lefts t
  pub used : map occurrence_view o.used.items ≡ uses t
  pub precs : map occurrence_view o.precs.items ≡ precs t

use Rattle.std.proofs.Common.{◌≡◌, List, [], ◌∷◌, ◌++◌, ◌≤◌, length, ap, ◌∙◌, arith}
use Rattle.std.specs.List.{AllByRecursion}
use Rattle.std.proofs.ByRecursion.{All-map}
use lib.ListN.{length-map}
use Rattle.bounded.specs.Held.{held, used}
use Rattle.bounded.proofs.Few.{held_few}
use Rattle.product.specs.Parts.{rows}
use Rattle.product.specs.declared.interface.Interface.{Interface}
use Rattle.artifact.specs.Art.{art, artifact_bytes, read}
use Rattle.artifact.specs.declared.artifact.Artifact.{Artifact}
use Rattle.artifact.proofs.Rounds.{round_trip}
use Rattle.artifact.proofs.Sizes.{Short, short_fits}
use Rattle.artifact.proofs.artifact.Artifact.write.Goals as goal

all_of : (is : List Interface) → AllByRecursion (λ i. length (rows i) ≤ 12) is
all_of [] = tt
all_of (i ∷ is) = (held_few i.list, all_of is)

-- the lists of an artifact are within their limits
is_short : (a : Artifact) → Short (art a)
is_short a =
    record {
      few_source = held_few a.source;
      few_imports = omega (arith, length-map (used a.imports) rows, a.imports.all, a.imports.used.ok.0);
      imports = All-map (λ rs. length rs ≤ 12) rows (used a.imports) (all_of (used a.imports));
      few_rows = held_few a.product.interface.list;
      few_code = held_few a.product.code;
      few_entries = held_few a.product.entries;
      few_references = held_few a.product.references;
    }

pub returns : goal.returns
returns c =
    let a = c.args.self.now in
    let e : held c.append_parts.new.out ≡ artifact_bytes (art a) =
    c.append_parts.ensures (omega (arith, ap length c.clear.ensures, short_fits (art a) (is_short a))) ∙ ap (λ xs. xs ++ artifact_bytes (art a)) c.clear.ensures in
    record { bytes = e; back = λ h. ap read e ∙ round_trip.read_written (art a) h }

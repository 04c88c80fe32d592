-- Artifacts as parts, and their one writing.
use Rattle.std.specs.Prelude.{ℕ, ◌<◌, ◌≤◌, List, [], ◌∷◌, ◌++◌, map, length, Some, Option, nat_le, nat_lt}
use Rattle.std.specs.List.{AllByRecursion, list_all}
use Rattle.bounded.specs.Held.{held, used}
use Rattle.product.specs.Parts.{Parts, parts, no_parts, rows, Within, WithinRows}
use Rattle.product.specs.declared.row.Row.{Row}
use Rattle.product.specs.declared.row.Reference.{Reference}
use Rattle.product.specs.declared.interface.Interface.{Interface}
use Rattle.codec.specs.Format.{Format, next, listed, tested, byte, pair, reference, interface, code, whole}
use Rattle.artifact.specs.declared.artifact.Artifact.{Artifact}

-- an artifact's parts
pub record Art : Type 0 where
  pub source : List ℕ
  pub imports : List (List Row)
  pub product : Parts

-- the rows of some interfaces
abbrev pub imported : List Interface → List (List Row)
imported is = map rows is

-- what an artifact holds
abbrev pub art : Artifact → Art
art a = record { source = held a.source; imports = imported (used a.imports); product = parts a.product }

-- an artifact with nothing in it
abbrev pub no_art : Art
no_art = record { source = []; imports = []; product = no_parts }

-- an artifact with one import more
abbrev pub with_import : Art → List Row → Art
with_import a rs = record { source = a.source; imports = a.imports ++ rs ∷ []; product = a.product }

-- the source: at most 512 bytes behind a count of two bytes
abbrev pub source : Format (List ℕ)
source = listed pair 512 byte

-- the interfaces of the imports: at most four behind a count of one byte
abbrev pub imports : Format (List (List Row))
imports = listed byte 4 interface

-- entries: at most twelve places in code of so many bytes
abbrev pub entries : ℕ → Format (List ℕ)
entries n = tested (list_all (λ e. nat_lt e n)) (listed byte 12 pair)

-- references: at most 32, of a unit with so many imports
abbrev pub references : ℕ → Format (List Reference)
references n = tested (list_all (λ r. nat_le r.position n)) (listed byte 32 reference)

-- the product of a unit with so many imports: interface, code, entries, references
abbrev pub product : ℕ → Format Parts
product n =
    record {
      put = λ p. interface.put p.interface ++ (code.put p.code ++ ((entries (length p.code)).put p.entries ++ (references n).put p.references));
      get = λ bs. next (interface.get bs) (λ i cs. next (code.get cs) (λ c ds. next ((entries (length c)).get ds) (λ e es. next ((references n).get es) (λ r fs. Some (record { interface = i; code = c; entries = e; references = r }, fs)))));
    }

-- an artifact: source, interfaces of the imports, product
abbrev pub artifact : Format Art
artifact =
    record {
      put = λ a. source.put a.source ++ (imports.put a.imports ++ (product (length a.imports)).put a.product);
      get = λ bs. next (source.get bs) (λ s cs. next (imports.get cs) (λ i ds. next ((product (length i)).get ds) (λ p es. Some (record { source = s; imports = i; product = p }, es))));
    }

-- the bytes of an artifact
abbrev pub artifact_bytes : Art → List ℕ
artifact_bytes a = artifact.put a

-- the artifact that bytes are, where they are one
abbrev pub read : List ℕ → Option Art
read bs = whole (artifact.get bs)

-- an artifact within its limits
pub record WithinArt (a : Art) : Type 0 where
  pub few_source : length a.source ≤ 512
  pub source : AllByRecursion (λ b. b < 256) a.source
  pub few_imports : length a.imports ≤ 4
  pub imports : AllByRecursion WithinRows a.imports
  pub product : Within (length a.imports) a.product

-- What stops a text about a file, and what is said then.
use Rattle.std.specs.Prelude.{◌≡◌, ℕ, List}
use Rattle.jobs.specs.declared.form.Form.{Form}
use Rattle.jobs.specs.declared.stop.Stop.{Stop}
use Rattle.jobs.specs.declared.stop.Stop.TheVariants.{File, Memory}
use Rattle.jobs.specs.Files.{First}
use Rattle.jobs.specs.Listing.{fault_line}

-- it is the file's first fault, or that memory is refused, of which nothing is known
abbrev pub StoppedBy : Form → List ℕ → Stop → Type 0
StoppedBy f bytes (File e) = First f bytes e
StoppedBy f bytes (Memory e) = Unit {0}

-- the text is the line of the fault; without memory there is none
abbrev pub Says : Stop → List ℕ → Type 0
Says (File e) text = text ≡ fault_line e
Says (Memory e) text = ⊥

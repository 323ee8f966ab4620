-- A search is a start and rounds of scans, of the rows of the places.
use Rattle.std.proofs.Common.{◌≡◌, length, take, sym, ◌∙◌, subst, arith}
use Rattle.std.proofs.lemmas.List.{length-take-le, take_at}
use Rattle.std.proofs.lemmas.Slice.{drop-append-drop}
use Rattle.plan.specs.Entries.{tables}
use Rattle.plan.specs.Searches.{Searched}
use Rattle.plan.specs.Starts.{Zeros, IsStart}
use Rattle.plan.proofs.Searching.{searched}
use Rattle.plan.proofs.loaded.Loaded.search.Goals as goal

pub returns : goal.returns
returns g c =
    let K = g.N.Cost.Cost.kind in
    let net = g.N.Network.means c.args.self.now.net.now in
    let loads = c.args.self.now.loads.now in
    let n = c.places.ensures in
    let long : length (take c.places.result c.args.rows.now) ≡ net.places = length-take-le c.places.result c.args.rows.now (omega (arith, n, c.requires.rows)) ∙ n in
    let begun : length c.start.new.rows ≡ net.places = c.start.auto.rows ∙ long in
    let ended : length c.rounds.new.rows ≡ net.places = c.rounds.auto.rows ∙ begun in
    let zeros = subst (λ k. Zeros K (IsStart k c.args.starts) (tables c.start.new.rows c.start.new.notes)) long c.start.ensures in
    record {
      found = subst (λ rows. Searched K net loads (IsStart net.places c.args.starts) (tables rows c.rounds.new.notes) c.rounds.result) (sym (take_at c.rounds.new.rows _ net.places ended))
          (searched K net loads (IsStart net.places c.args.starts) (tables c.start.new.rows c.start.new.notes) (tables c.rounds.new.rows c.rounds.new.notes)
          begun c.rounds.result zeros c.rounds.ensures);
      past = drop-append-drop c.places.result c.args.rows.now c.rounds.new.rows net.places (omega (arith, n)) (ended ∙ sym n);
    }

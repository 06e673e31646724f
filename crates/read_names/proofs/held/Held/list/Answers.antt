-- A number issues nothing; a key's rows are its own where no link starts at the name.
use Rattle.std.proofs.Common.{arith, ap, [], ◌∙◌}
use Rattle.rows.specs.Polarities.{polarity_number}
use Rattle.rows.specs.Layout.{written, formed}
use Rattle.read_values.proofs.Answers.{cleared}
use Rattle.read_names.proofs.Linked.{own_copied, own_large}
use Rattle.read_names.proofs.Named.{told_so, polarity_few, polarity_form, number_listed, key_listed, key_large}
use Rattle.read_names.proofs.held.Held.list.Goals as goal

pub returns-then-name-lt-FIRST_KEY : goal.returns-then-name-lt-FIRST_KEY
returns-then-name-lt-FIRST_KEY c =
    let few = polarity_few c.args.name.polarity in
    let empty = cleared c.args.area.now c.requires few (c.clear.ensures ∙ ap (λ f. written (formed f []) c.args.area.now) (polarity_form c.args.name.polarity c.into.ensures)) in
    number_listed c.args.self.now c.args.name c.if-name-lt-FIRST_KEY.true empty

pub list_reached-requires : goal.list_reached-requires
list_reached-requires c =
    cleared c.args.area.now c.requires (polarity_few c.args.name.polarity) (c.clear.ensures ∙ ap (λ f. written (formed f []) c.args.area.now) (polarity_form c.args.name.polarity c.into.ensures))

pub returns-then-is_linked : goal.returns-then-is_linked
returns-then-is_linked c =
    told_so c.list_reached.result c.list_reached.ensures
    (λ a s. key_listed c.args.self.now c.args.name c.if-name-lt-FIRST_KEY.false s)
    (λ e s. key_large c.args.self.now c.args.name c.if-name-lt-FIRST_KEY.false s)

pub copy_rows-requires : goal.copy_rows-requires
copy_rows-requires c =
    let few = polarity_few c.args.name.polarity in
    let empty = cleared c.args.area.now c.requires few (c.clear.ensures ∙ ap (λ f. written (formed f []) c.args.area.now) (polarity_form c.args.name.polarity c.into.ensures)) in
    (c.records_of.ensures.sound, empty.filled.long, omega (arith, empty.is, few))

pub returns : goal.returns
returns c =
    let h = c.args.self.now in
    let n = c.args.name in
    let v = polarity_number n.polarity in
    let few = polarity_few n.polarity in
    let empty = cleared c.args.area.now c.requires few (c.clear.ensures ∙ ap (λ f. written (formed f []) c.args.area.now) (polarity_form c.args.name.polarity c.into.ensures)) in
    let alone = c.is_linked.ensures in
    told_so c.copy_rows.result c.copy_rows.ensures
    (λ a w. key_listed h n c.if-name-lt-FIRST_KEY.false (own_copied h.minute h.store.now h.links.now n.key n.number v h.sound few alone c.if-is_linked.false c.records_of.ensures.records empty c.records_of.ensures.sound w))
    (λ e w. key_large h n c.if-name-lt-FIRST_KEY.false (own_large h.minute h.store.now h.links.now n.key n.number v h.sound few alone c.if-is_linked.false c.records_of.ensures.records w))

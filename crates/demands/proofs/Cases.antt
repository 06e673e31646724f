-- The portal cases hold, by computation.
use mathlib.Core.Path.{refl}
use Rattle.demands.specs.Cases.{Holds, cases, AllHold, terms, TermsHold, links, LinksHold, formats, FormatsHold, our_names, OurNamesHold}
use Rattle.rows.specs.Word.{All}
use Rattle.certificates.specs.Stores.{stores_at}
use Rattle.demands.specs.Query.{query_call}

pub all_hold : AllHold
unfolding Holds cases All stores_at query_call
all_hold = (refl, (refl, (refl, (refl, (refl, (refl, (refl, (refl, (refl, (refl, (refl, (refl, tt))))))))))))

pub terms_hold : TermsHold
unfolding Holds terms All stores_at query_call
terms_hold = (refl, (refl, (refl, (refl, (refl, (refl, (refl, (refl, tt))))))))

pub links_hold : LinksHold
unfolding Holds links All stores_at query_call
links_hold = (refl, (refl, (refl, (refl, (refl, (refl, (refl, (refl, (refl, (refl, (refl, (refl, (refl, (refl, (refl, (refl, (refl, (refl, tt))))))))))))))))))

pub formats_hold : FormatsHold
unfolding Holds formats All stores_at query_call
formats_hold = (refl, (refl, (refl, (refl, (refl, (refl, (refl, (refl, (refl, (refl, (refl, (refl, (refl, (refl, (refl, (refl, (refl, (refl, (refl, (refl, (refl, (refl, (refl, (refl, (refl, (refl, (refl, (refl, tt))))))))))))))))))))))))))))

pub our_names_hold : OurNamesHold
unfolding Holds our_names All stores_at query_call
our_names_hold = (refl, (refl, (refl, (refl, (refl, (refl, (refl, (refl, (refl, (refl, (refl, (refl, (refl, (refl, (refl, (refl, (refl, (refl, (refl, (refl, (refl, (refl, tt))))))))))))))))))))))

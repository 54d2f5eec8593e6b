use Rattle.gf_search.proofs.alone.found_alone.Given as goal

abbrev pub ghosts-found_of_named_search_alone : goal.ghosts-found_of_named_search_alone
ghosts-found_of_named_search_alone a = record { search = a.search.now }

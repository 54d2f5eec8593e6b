use Rattle.gf_search.proofs.by_crew.found_by_crew.Given as goal

abbrev pub ghosts-found_of_named_search_by_crew : goal.ghosts-found_of_named_search_by_crew
ghosts-found_of_named_search_by_crew g a = record { search = a.search.now }

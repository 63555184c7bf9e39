mod Landings

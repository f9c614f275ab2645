mod FormedCodes
